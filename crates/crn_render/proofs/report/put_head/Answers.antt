use Rattle.crn_render.proofs.Prelude.{err_from_is_err_and, WroteAll-then, WrotePrefix-then, WrotePrefix-more, Wrote-prefix, Wrote-then}
use Rattle.crn_render.proofs.report.put_head.Goals as goal

pub returns-in_err-put_first_line : goal.returns-in_err-put_first_line
returns-in_err-put_first_line g c =
    let p = err_from_is_err_and c.from_residual.result c.from_residual.ensures.1 in
    Wrote-prefix p.1 (WrotePrefix-more _ (WrotePrefix-more _ (WrotePrefix-more _ c.in_err-put_first_line.ensures.prefix)))

pub returns-in_err-put_species_line : goal.returns-in_err-put_species_line
returns-in_err-put_species_line g c =
    let p = err_from_is_err_and c.from_residual-in_err-put_species_line.result c.from_residual-in_err-put_species_line.ensures.1 in
    Wrote-prefix p.1 (WrotePrefix-more _ (WrotePrefix-more _ (WrotePrefix-then c.in_ok-put_first_line.ensures.all c.in_err-put_species_line.ensures.prefix)))

pub returns-in_err-put_complexes_line : goal.returns-in_err-put_complexes_line
returns-in_err-put_complexes_line g c =
    let p = err_from_is_err_and c.from_residual-in_err-put_complexes_line.result c.from_residual-in_err-put_complexes_line.ensures.1 in
    Wrote-prefix p.1 (WrotePrefix-more _ (WrotePrefix-then (WroteAll-then c.in_ok-put_first_line.ensures.all c.in_ok-put_species_line.ensures.all) c.in_err-put_complexes_line.ensures.prefix))

pub returns : goal.returns
returns g c = Wrote-then (WroteAll-then (WroteAll-then c.in_ok-put_first_line.ensures.all c.in_ok-put_species_line.ensures.all) c.in_ok-put_complexes_line.ensures.all) c.put_reactions_line.ensures
