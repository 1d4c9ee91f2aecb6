use Rattle.crn_render.proofs.Prelude.{err_from_is_err_and, WrotePrefix-more, Wrote-prefix, Wrote-then}
use Rattle.crn_render.proofs.details.put_table_pair.Goals as goal

pub returns-in_err-put_sigma_line : goal.returns-in_err-put_sigma_line
returns-in_err-put_sigma_line g c =
    let p = err_from_is_err_and c.from_residual.result c.from_residual.ensures.1 in
    Wrote-prefix p.1 (WrotePrefix-more _ c.in_err-put_sigma_line.ensures.prefix)

pub returns : goal.returns
returns g c = Wrote-then c.in_ok-put_sigma_line.ensures.all c.put_vector_entry.ensures
