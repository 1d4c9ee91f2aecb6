use Rattle.crn_render.proofs.Prelude.{codes, err_from_is_err_and, WroteAll-then, WrotePrefix-then, WrotePrefix-more, Wrote-prefix, Wrote-then, briefs, verdicts_line}
use Rattle.crn_render.proofs.summary.put_verdicts_line.Goals as goal

pub returns-in_err-put_all : goal.returns-in_err-put_all
unfolding verdicts_line
returns-in_err-put_all g c =
    let p = err_from_is_err_and c.from_residual.result c.from_residual.ensures.1 in
    Wrote-prefix p.1 (WrotePrefix-more (codes "\n") (WrotePrefix-more (briefs c.args.verdicts.now) c.in_err-put_all.ensures.writes.prefix))

pub returns-in_err-put_briefs : goal.returns-in_err-put_briefs
unfolding verdicts_line
returns-in_err-put_briefs g c =
    let p = err_from_is_err_and c.from_residual-in_err-put_briefs.result c.from_residual-in_err-put_briefs.ensures.1 in
    Wrote-prefix p.1 (WrotePrefix-more (codes "\n") (WrotePrefix-then c.in_ok-put_all.ensures.writes.all c.in_err-put_briefs.ensures.prefix))

pub returns : goal.returns
unfolding verdicts_line
returns g c = Wrote-then (WroteAll-then c.in_ok-put_all.ensures.writes.all c.in_ok-put_briefs.ensures.all) c.put_all-2.ensures.writes
