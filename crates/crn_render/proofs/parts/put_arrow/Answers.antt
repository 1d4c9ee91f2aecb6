use Rattle.crn_render.proofs.Prelude.{err_from_is_err_and, WroteAll-then, WrotePrefix-then, WrotePrefix-more, Wrote-prefix, Wrote-then}
use Rattle.crn_render.proofs.parts.put_arrow.Goals as goal

pub returns-in_err-put_side : goal.returns-in_err-put_side
returns-in_err-put_side g c =
    let p = err_from_is_err_and c.from_residual.result c.from_residual.ensures.1 in
    Wrote-prefix p.1 (WrotePrefix-more _ (WrotePrefix-more _ c.in_err-put_side.ensures.prefix))

pub returns-in_err-put_all : goal.returns-in_err-put_all
returns-in_err-put_all g c =
    let p = err_from_is_err_and c.from_residual-in_err-put_all.result c.from_residual-in_err-put_all.ensures.1 in
    Wrote-prefix p.1 (WrotePrefix-more _ (WrotePrefix-then c.in_ok-put_side.ensures.all c.in_err-put_all.ensures.writes.prefix))

pub returns : goal.returns
returns g c = Wrote-then (WroteAll-then c.in_ok-put_side.ensures.all c.in_ok-put_all.ensures.writes.all) c.put_side-2.ensures
