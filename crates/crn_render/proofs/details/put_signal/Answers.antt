use Rattle.crn_render.proofs.Prelude.{err_from_is_err_and, WroteAll-then, WrotePrefix-then, WrotePrefix-more, Wrote-prefix, Wrote-then}
use Rattle.crn_render.proofs.details.put_signal.Goals as goal

pub returns-in_err-put_turn_entry : goal.returns-in_err-put_turn_entry
returns-in_err-put_turn_entry g c =
    let p = err_from_is_err_and c.from_residual.result c.from_residual.ensures.1 in
    Wrote-prefix p.1 (WrotePrefix-more _ (WrotePrefix-more _ (WrotePrefix-more _ c.in_err-put_turn_entry.ensures.prefix)))

pub returns-in_err-put_shelves_entry : goal.returns-in_err-put_shelves_entry
returns-in_err-put_shelves_entry g c =
    let p = err_from_is_err_and c.from_residual-in_err-put_shelves_entry.result c.from_residual-in_err-put_shelves_entry.ensures.1 in
    Wrote-prefix p.1 (WrotePrefix-more _ (WrotePrefix-more _ (WrotePrefix-then c.in_ok-put_turn_entry.ensures.all c.in_err-put_shelves_entry.ensures.prefix)))

pub returns-in_err-put_vector_entry : goal.returns-in_err-put_vector_entry
returns-in_err-put_vector_entry g c =
    let p = err_from_is_err_and c.from_residual-in_err-put_vector_entry.result c.from_residual-in_err-put_vector_entry.ensures.1 in
    Wrote-prefix p.1 (WrotePrefix-more _ (WrotePrefix-then (WroteAll-then c.in_ok-put_turn_entry.ensures.all c.in_ok-put_shelves_entry.ensures.all) c.in_err-put_vector_entry.ensures.prefix))

pub returns : goal.returns
returns g c = Wrote-then (WroteAll-then (WroteAll-then c.in_ok-put_turn_entry.ensures.all c.in_ok-put_shelves_entry.ensures.all) c.in_ok-put_vector_entry.ensures.all) c.put_value_entry.ensures
