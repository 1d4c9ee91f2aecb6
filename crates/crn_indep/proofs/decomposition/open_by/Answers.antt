use Rattle.crn_indep.proofs.Prelude.{length, refl, subst, length-map, reaction_vector, species_system, wide_basis, IsWideStop}
use Rattle.crn_indep.proofs.decomposition.open_by.Goals as goal

pub returns-in-Wide : goal.returns-in-Wide
returns-in-Wide c =
    let net = c.args.net.now in
    let w = c.in-Wide in
    let wide = subst (IsWideStop (species_system net)) w.is c.requires in
    record { formed = wide_basis (species_system net) (length net.names) (length net.reactions) w.index w.basis.list refl (length-map net.reactions (reaction_vector net)) wide; valid = tt; true_of = tt; licensed = wide }
