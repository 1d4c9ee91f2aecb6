-- What this crate's proofs use of other crates and of its specs.
pub use Rattle.crn_cert.specs.Questions.{Q8}
pub use Rattle.crn_cert.specs.Ranges.{AreFree}
pub use Rattle.crn_cert.specs.Says.{RuleOutConservation}
pub use Rattle.crn_cert.specs.declared.answer.Answer.{Answer}
pub use Rattle.crn_cert.specs.declared.answer.Proof.TheVariants.{Nothing}
pub use Rattle.crn_cert.specs.declared.answer.Verdict.TheVariants.{NoVec}
pub use Rattle.crn_siphon_check.specs.Answers.{NoLaw, NoSiphon, Yes as SaysYes, Spent, ValidAnswersAreTrue, Wide}
pub use Rattle.crn_siphon_check.specs.PlanCode.{plan_back}
pub use Rattle.crn_siphon_check.specs.Prefixes.{IsBad, IsOut}
pub use Rattle.crn_siphon_check.specs.Preorder.{Listed, first_tree, preorder, tree_of, trees_of, weights_of}
pub use Rattle.crn_siphon_check.specs.SiphonVisits.{AreLonger, AreOne, Passes, Visits, begun, below, children, ended, fallen, opened, over, past, root}
pub use Rattle.crn_siphon_check.specs.Siphons.{ContainsLaw, Covers, HasMember, HoldsMember, IsSemiLaw, IsSiphon, IsZeroOutside, set_of}
pub use Rattle.crn_siphon_check.specs.Trees.{Bad, Fork, IsValidTree, Law, Plan, Void}
pub use Rattle.crn_vec.proofs.CallerLemmas.{across, all_at, at_in, dot-comm, dot_above, dot_zero, dots, entry-dots, entry-listed, in_at, length-dots, listed, lt_or, part, past_end, pos_pos, refused}
pub use Rattle.crn_vec.specs.Deficiency.{IsConservative, vectors}
pub use Rattle.crn_vec.specs.Lists.{IsIn}
pub use Rattle.crn_vec.specs.Network.{Holds, IsNetwork, Net}
pub use Rattle.crn_vec.specs.Vectors.{column, dot, entry}
pub use Rattle.std.proofs.Common.{Bool, List, [], ap, append_assoc, arith, false, get_or, inl, inr, length, refl, subst, suc, sym, true, zero, ℕ, ◌++◌, ◌+◌, ◌-◌, ◌<◌, ◌∙◌, ◌∷◌, ◌≡◌, ◌≤◌, ◌⊎◌}
pub use Rattle.std.proofs.lemmas.Bool.{cases_Bool, false≢true}
pub use Rattle.std.proofs.lemmas.Int.{ints}
pub use Rattle.std.proofs.lemmas.List.{append-nil, length-append}
pub use Rattle.std.specs.Prelude.{negsuc, pos, ℤ, ◌*ℤ◌, ◌<ℤ◌, ◌≤ℤ◌}
