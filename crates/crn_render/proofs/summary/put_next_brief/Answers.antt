use Rattle.crn_render.proofs.Prelude.{err_from_is_err_and, WrotePrefix-more, Wrote-prefix, Wrote-then}
use Rattle.crn_render.proofs.summary.put_next_brief.Goals as goal

pub returns-in_err-put_all : goal.returns-in_err-put_all
returns-in_err-put_all g c =
    let p = err_from_is_err_and c.from_residual.result c.from_residual.ensures.1 in
    Wrote-prefix p.1 (WrotePrefix-more _ c.in_err-put_all.ensures.writes.prefix)

pub returns : goal.returns
returns g c = Wrote-then c.in_ok-put_all.ensures.writes.all c.put_brief.ensures
