use Rattle.crn_render.proofs.Prelude.{err_from_is_err_and, WroteAll-then, WrotePrefix-then, WrotePrefix-more, Wrote-prefix, Wrote-then, complexes_line}
use Rattle.crn_render.proofs.report.put_complexes_line.Goals as goal

pub returns-in_err-put_number : goal.returns-in_err-put_number
unfolding complexes_line
returns-in_err-put_number g c =
    let p = err_from_is_err_and c.from_residual.result c.from_residual.ensures.1 in
    let first0 = rw c.complexes.ensures.count at c.in_err-put_number.ensures in
    Wrote-prefix p.1 (WrotePrefix-more _ (WrotePrefix-more _ first0.prefix))

pub returns-in_err-put_complexes : goal.returns-in_err-put_complexes
unfolding complexes_line
returns-in_err-put_complexes g c =
    let p = err_from_is_err_and c.from_residual-in_err-put_complexes.result c.from_residual-in_err-put_complexes.ensures.1 in
    let first0 = rw c.complexes.ensures.count at c.in_ok-put_number.ensures in
    Wrote-prefix p.1 (WrotePrefix-more _ (WrotePrefix-then first0.all c.in_err-put_complexes.ensures.prefix))

pub returns : goal.returns
unfolding complexes_line
returns g c =
    let first0 = rw c.complexes.ensures.count at c.in_ok-put_number.ensures in
    Wrote-then (WroteAll-then first0.all c.in_ok-put_complexes.ensures.all) c.put_all.ensures.writes
