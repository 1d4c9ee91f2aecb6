-- What this crate's proofs use of other crates and of its specs.
pub use Rattle.crn_cert.proofs.CallerLemmas.{wide_basis}
pub use Rattle.crn_cert.specs.Ranges.{AreBits, AreFree, IsNarrow}
pub use Rattle.crn_cert.specs.Says.{RuleOutConservation}
pub use Rattle.crn_conc.proofs.CallerLemmas.{if_ok, solution_free}
pub use Rattle.crn_farkas.specs.Decision.{IsDecision, IsSmallCut, IsSmallSolution}
pub use Rattle.crn_farkas.specs.declared.decision.Decision.{Decision}
pub use Rattle.crn_farkas.specs.declared.decision.Decision.TheVariants.{Feasible, Infeasible}
pub use Rattle.crn_farkas.specs.declared.fault.Stop.{Stop}
pub use Rattle.crn_farkas.specs.declared.fault.Stop.TheVariants.{NoMemory, Wide as StopWide}
pub use Rattle.crn_siphon.specs.Inner.Changes.{AreChanges, change_at, part_at}
pub use Rattle.crn_siphon.specs.Inner.Ends.{IsEndOfVisits, IsStopAnswer}
pub use Rattle.crn_siphon.specs.Inner.Known.{AreCovers, AreIncreased, AreLaws, HasMore, IsCoverIn, IsCoverOf, IsFactAt, IsFinding, IsLawIn, IsLawWithin, IsSearchStop, fact}
pub use Rattle.crn_siphon.specs.Inner.Nodes.{HasLeafAt, IsLeaf, IsNodeAt, Lists}
pub use Rattle.crn_siphon.specs.Inner.Places.{AreAllHolders, AreEnds, AreEndsOf, AreHolders, HoldsIn, IsPlace, IsReaction, IsStopping, NoneStops, StopsLast}
pub use Rattle.crn_siphon.specs.Inner.Search.{EndsAt, EndsBelow, EndsBelowWithTree, EndsFound, EndsWithSet, EndsWithTree, HasGrown, HasNoBad, HasPut, IsFoundBy, IsLeafAt, IsShown, IsStanding, IsVisit, NoneStopsIf, RunsOut}
pub use Rattle.crn_siphon.specs.Inner.Sets.{Has, HasCommon, IsWithin, mark, marks, members}
pub use Rattle.crn_siphon.specs.Inner.Systems.{change_kind, siphon_kinds}
pub use Rattle.crn_siphon.specs.declared.answer.Shown.{Shown}
pub use Rattle.crn_siphon.specs.declared.answer.Shown.TheVariants.{Siphon, Tree}
pub use Rattle.crn_siphon.specs.declared.change.Change.{Change}
pub use Rattle.crn_siphon.specs.declared.changes.Changes.{Changes}
pub use Rattle.crn_siphon.specs.declared.ends.Ends.{Ends}
pub use Rattle.crn_siphon.specs.declared.ends.Holders.{Holders}
pub use Rattle.crn_siphon.specs.declared.known.Fact.{Fact}
pub use Rattle.crn_siphon.specs.declared.known.Finding.{Finding}
pub use Rattle.crn_siphon.specs.declared.place.Place.{Place}
pub use Rattle.crn_siphon.specs.declared.search.End.{End}
pub use Rattle.crn_siphon.specs.declared.search.End.TheVariants.{Found, Refuted, Spent}
pub use Rattle.crn_siphon.specs.declared.search.Search.{Search}
pub use Rattle.crn_siphon.specs.declared.search.Standing.{Standing}
pub use Rattle.crn_siphon.specs.declared.sets.SpeciesSet.{SpeciesSet}
pub use Rattle.crn_siphon_check.proofs.CallerLemmas.{covered_has_none, longer_by, passes_at, passes_first, passes_then, valid_answers_are_true, visits_ended, visits_then}
pub use Rattle.crn_siphon_check.specs.Answers.{IsAnswer, IsFormed, IsValid, NoLaw, NoSiphon, Said, Spent as SpentAnswer, Wide, Yes, said_of}
pub use Rattle.crn_siphon_check.specs.PlanCode.{plan_back}
pub use Rattle.crn_siphon_check.specs.Prefixes.{IsBad, IsFull, IsOut, IsVoid, Stands}
pub use Rattle.crn_siphon_check.specs.Preorder.{AreNodesOf, Listed, ListedFork, ListedLaw, first_tree, listed, preorder, trees_of, weights_of}
pub use Rattle.crn_siphon_check.specs.SiphonVisits.{Passes, PassesBudget, Visits, begun, below, children, ended, fallen, opened, over, root}
pub use Rattle.crn_siphon_check.specs.Siphons.{Covers, HasMember, HoldsMember, IsSiphon, IsZeroOutside, set_of}
pub use Rattle.crn_siphon_check.specs.Trees.{Bad, IsFormedTree, Law, Plan, Bad as PlanBad, Fork as PlanFork, Law as PlanLaw, Void as PlanVoid, node_count}
pub use Rattle.crn_siphon_check.specs.declared.answer.Persist.{Persist}
pub use Rattle.crn_siphon_check.specs.declared.tree_node.SiphonNode.{SiphonNode as Node}
pub use Rattle.crn_siphon_check.specs.declared.tree_node.SiphonNode.TheVariants.{Fork, Law as LawAt, Fork as NodeFork, Void}
pub use Rattle.crn_solve.specs.Laws.{IsLawDecision, IsLawStop}
pub use Rattle.crn_vec.proofs.CallerLemmas.{all_at, all_given, all_in, all_push, any_default, column_is, distrib, dot-comm, dot_step, entry-column, entry_of_zeros, eq_or, in_at, kinds_at, length-column, lt_or, nought_adds, past_end, refused, row_is, rows_count, vector_at, vectors_count, zero_adds}
pub use Rattle.crn_vec.specs.Deficiency.{IsConservationLaw, vectors}
pub use Rattle.crn_vec.specs.Elementary.{NamesWide, width}
pub use Rattle.crn_vec.specs.Kept.{KeptInts, KeptNums}
pub use Rattle.crn_vec.specs.NetSystems.{reaction_system, species_system}
pub use Rattle.crn_vec.specs.Network.{Holds, IsNetwork, IsVector, JoinsTwo, Net, amount_at, reaction_vector}
pub use Rattle.crn_vec.specs.Rank.{combination_at}
pub use Rattle.crn_vec.specs.Systems.{HasKind, MayWeigh, is_signed, kind_at, signed_count}
pub use Rattle.crn_vec.specs.Vectors.{AreWithin, Mat, column, dot, entry}
pub use Rattle.crn_vec.specs.declared.limits.TheConstants.{MAX_BUDGET, WIDE_SOLUTION}
pub use Rattle.crn_vec.specs.declared.signs.Kind.{Kind}
pub use Rattle.crn_vec.specs.declared.signs.Kind.TheVariants.{Free}
pub use Rattle.std.proofs.Common.{Bool, Err, FitsSigned, Global, List, Ok, Result, Vec, [], ap, ap₂, arith, drop, false, get_or, inl, inr, length, map, max, min, refl, rules, set, subst, suc, sym, take, take_all, true, unsigned_abs, w64, zero, ℕ, ◌%◌, ◌*◌, ◌++◌, ◌+◌, ◌-◌, ◌/◌, ◌<◌, ◌==◌, ◌^◌, ◌∙◌, ◌∷◌, ◌≡◌, ◌≢◌, ◌≤◌, ◌⊎◌}
pub use Rattle.std.proofs.Math.ListN.{get_or-append, replicate}
pub use Rattle.std.proofs.lemmas.Bool.{cases_Bool, eq-eqb, eqb-true, false≢true}
pub use Rattle.std.proofs.lemmas.Int.{fits_signed_mul, ints, to_z-of_z}
pub use Rattle.std.proofs.lemmas.List.{append-nil, append_assoc, drop_all, drop_more, get_or-append_right, get_or-drop, get_or-map, get_or-replicate, get_or-set_other, get_or-set_same, get_or_past, get_or_push, length-append, length-drop, length-map, length-replicate, length-set, map-append, take_more}
pub use Rattle.std.proofs.lemmas.Nat.Bits.{bit_at-lt, bit_at-suc, bit_at-zero, bit_at_and, bit_at_lowest, bit_at_or, bit_at_set_other, bit_at_set_same, same_from_bits}
pub use Rattle.std.proofs.lemmas.Result.{MatchResult-weaker, err_from_is_err_and, on_ok_weaker}
pub use Rattle.std.specs.Int.{bit_at, w128}
pub use Rattle.std.specs.Int.Bits.{bit_and, bit_or}
pub use Rattle.std.specs.List.{AllByRecursion}
pub use Rattle.std.specs.Prelude.{IfSome, MatchResult, OnOk, Option, neg_ℤ, negsuc, pos, ℤ, ◌*ℤ◌, ◌+ℤ◌, ◌↔◌, ◌≤ℤ◌}
