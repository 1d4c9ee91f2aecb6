use Rattle.crn_render.proofs.Prelude.{err_from_is_err_and, WroteAll-then, WrotePrefix-then, WrotePrefix-more, Wrote-prefix, Wrote-then}
use Rattle.crn_render.proofs.summary.write_summary.Goals as goal

pub returns-in_err-put_sample_line : goal.returns-in_err-put_sample_line
returns-in_err-put_sample_line g c =
    let p = err_from_is_err_and c.from_residual.result c.from_residual.ensures.1 in
    Wrote-prefix p.1 (WrotePrefix-more _ (WrotePrefix-more _ c.in_err-put_sample_line.ensures.prefix))

pub returns-in_err-put_verdicts_line : goal.returns-in_err-put_verdicts_line
returns-in_err-put_verdicts_line g c =
    let p = err_from_is_err_and c.from_residual-in_err-put_verdicts_line.result c.from_residual-in_err-put_verdicts_line.ensures.1 in
    Wrote-prefix p.1 (WrotePrefix-more _ (WrotePrefix-then c.in_ok-put_sample_line.ensures.all c.in_err-put_verdicts_line.ensures.prefix))

pub returns : goal.returns
returns g c = Wrote-then (WroteAll-then c.in_ok-put_sample_line.ensures.all c.in_ok-put_verdicts_line.ensures.all) c.put_accepted_line.ensures
