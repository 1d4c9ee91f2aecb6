use Rattle.crn_render.proofs.Prelude.{err_from_is_err_and, WroteAll-then, WrotePrefix-then, WrotePrefix-more, Wrote-prefix, Wrote-then}
use Rattle.crn_render.proofs.details.put_shelves_entry.Goals as goal

pub returns-in_err-put_title : goal.returns-in_err-put_title
returns-in_err-put_title g c =
    let p = err_from_is_err_and c.from_residual.result c.from_residual.ensures.1 in
    Wrote-prefix p.1 (WrotePrefix-more _ (WrotePrefix-more _ c.in_err-put_title.ensures.prefix))

pub returns-in_err-put_shelves : goal.returns-in_err-put_shelves
returns-in_err-put_shelves g c =
    let p = err_from_is_err_and c.from_residual-in_err-put_shelves.result c.from_residual-in_err-put_shelves.ensures.1 in
    Wrote-prefix p.1 (WrotePrefix-more _ (WrotePrefix-then c.in_ok-put_title.ensures.all c.in_err-put_shelves.ensures.prefix))

pub returns : goal.returns
returns g c = Wrote-then (WroteAll-then c.in_ok-put_title.ensures.all c.in_ok-put_shelves.ensures.all) c.put_all.ensures.writes
