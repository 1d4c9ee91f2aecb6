use Rattle.crn_ctext.proofs.Prelude.{err_from_is_err_and, refl, WrotePrefix-more}
use Rattle.crn_ctext.proofs.Pieces.{Gathered-add, Gathers-all, Gathers-prefix}
use Rattle.crn_ctext.proofs.write_tree.gather_name.Goals as goal

pub returns-in_err-make_room : goal.returns-in_err-make_room
returns-in_err-make_room g c =
    let p = err_from_is_err_and c.from_residual.result c.from_residual.ensures.1 in
    Gathers-prefix p.1 (WrotePrefix-more _ c.in_err-make_room.ensures.gathers.prefix)

pub returns : goal.returns
returns g c = Gathers-all (Gathered-add _ c.add_name.ensures refl c.in_ok-make_room.ensures.gathers.all)
