-- What this crate's proofs use of other crates and of its specs.
pub use Rattle.crn_cert.proofs.CallerLemmas.{all_vectors, wide_basis}
pub use Rattle.crn_cert.specs.ClassTests.{IsTree}
pub use Rattle.crn_cert.specs.declared.answer.RankProof.{RankProof}
pub use Rattle.crn_graph.proofs.CallerLemmas.{arc_made, arc_only, arc_same}
pub use Rattle.crn_graph.specs.Arcs.{AreInside, HasArc, arc_at}
pub use Rattle.crn_graph.specs.Forest.{AreJoined, DoLeadBack, HangsByArc}
pub use Rattle.crn_graph.specs.declared.arcs.Arc.{Arc}
pub use Rattle.crn_indep.specs.Inner.Ties.{AddsPair, AreArcsFor, AreTieArcs, AreTieArcsTo, step_to}
pub use Rattle.crn_indep_check.proofs.CallerLemmas.{drawer_bounds, drawn_member, member_bounds, valid_are_true}
pub use Rattle.crn_indep_check.specs.Finest.{all_reactions}
pub use Rattle.crn_indep_check.specs.Shown.{AreEvenLabels, AreLinked, AreTied, DrawsOn, HangsByTie, IsProofForm, IsShown, IsShownForm, count_outside}
pub use Rattle.crn_indep_check.specs.declared.parts.Parts.TheVariants.{Split}
pub use Rattle.crn_rank.specs.Rank.{AreMembers, IsWideStop, ProvesRank, member_matrix}
pub use Rattle.crn_space.proofs.CallerLemmas.{rank_from}
pub use Rattle.crn_vec.proofs.CallerLemmas.{all_given, at_in, lt_or, range_ascending, range_bounds, range_more}
pub use Rattle.crn_vec.specs.Deficiency.{vectors}
pub use Rattle.crn_vec.specs.Lists.{IsIn}
pub use Rattle.crn_vec.specs.NetSystems.{species_system}
pub use Rattle.crn_vec.specs.Network.{IsNetwork, Net, reaction_vector}
pub use Rattle.crn_vec.specs.Rank.{IsRank}
pub use Rattle.crn_vec.specs.Vectors.{Mat}
pub use Rattle.std.proofs.Common.{List, [], ap, arith, get_or, inl, inr, length, refl, subst, suc, sym, take, zero, ℕ, ◌++◌, ◌+◌, ◌-◌, ◌<◌, ◌∙◌, ◌∷◌, ◌≡◌, ◌≤◌, ◌⊎◌}
pub use Rattle.std.proofs.lemmas.List.{length-map}
pub use Rattle.std.specs.List.{range_with_len}
pub use Rattle.std.specs.Prelude.{ℤ}
