use Rattle.crn_render.proofs.Prelude.{err_from_is_err_and, WrotePrefix-more, Wrote-prefix, Wrote-then}
use Rattle.crn_render.proofs.details.put_two_vectors.Goals as goal

pub returns-in_err-put_vector_entry : goal.returns-in_err-put_vector_entry
returns-in_err-put_vector_entry g c =
    let p = err_from_is_err_and c.from_residual.result c.from_residual.ensures.1 in
    Wrote-prefix p.1 (WrotePrefix-more _ c.in_err-put_vector_entry.ensures.prefix)

pub returns : goal.returns
returns g c = Wrote-then c.in_ok-put_vector_entry.ensures.all c.put_vector_entry-2.ensures
