-- What this crate's proofs use of other crates and of its specs.
pub use Rattle.crn_cert.proofs.CallerLemmas.{all_tight_then, classes_formed, fails_by_complexes, fails_by_exit, few_numbers, formed_answers_have_formed_verdicts, free_there, goes_at, hold_parts, least_one, passes_at, range_ascending, range_bounds, rank_formed, same_question, shape_count, sides_formed, some_number, terminals_few, terminals_no, terminals_yes, tight_twice, true_tight, valid_answers_are_true}
pub use Rattle.crn_cert.specs.Blocks.{FitsTree, trees_of}
pub use Rattle.crn_cert.specs.Built.{built}
pub use Rattle.crn_cert.specs.ClassTests.{AreAllExits, AreNumbered, AreSideMarks, GoesOut, IsFirst, IsReverse, IsWayRound, zeros_in}
pub use Rattle.crn_cert.specs.ConfluenceTests.{IsTie, least_from, others_than, tie_at, tie_tests}
pub use Rattle.crn_cert.specs.Faults.{BadVector, NotIndependent, NotSpanned}
pub use Rattle.crn_cert.specs.Formed.{IsFormed, IsFormedOf}
pub use Rattle.crn_cert.specs.FormedVerdicts.{AreFormedVerdicts, IsFormedVerdict}
pub use Rattle.crn_cert.specs.Law.{AreTrue, AreTrueOrOpen, IsTrueOrOpen, known_for, rests_for}
pub use Rattle.crn_cert.specs.Parts.{AreClassProofs, IsRankProof}
pub use Rattle.crn_cert.specs.Questions.{Earlier, Q1, Q10, Q11, Q12, Q13, Q14, Q15, Q2, Q3, Q4, Q5, Q6, Q7, Q8, Q9, Question, count_of, exits_of, labels_of, number, on, questions, terminal_of, vector_given}
pub use Rattle.crn_cert.specs.Ranges.{AreBits, AreFree, AreFrom, IsFrom, IsNarrow}
pub use Rattle.crn_cert.specs.RankTests.{IsComb, IsDual, comb_tests, dual_tests, outside, rank_tests, vector_of, vectors_of}
pub use Rattle.crn_cert.specs.Says.{HasNoReverse, IsTrueOf, WalkLeads, by_turn, from_zero}
pub use Rattle.crn_cert.specs.Tests.{AllHold, FailsFirst, Test, test}
pub use Rattle.crn_cert.specs.Valid.{AreClassNumbers, HaveOneBefore, IsNormal, class_places, class_rank_tests, exits, head_tests, is_in_both, linkage, linkage_count, pair_places, row_tests, side_tests, strong, terminals_in, terminals_of, tests_of}
pub use Rattle.crn_cert.specs.Verdicts.{all_tight, tight}
pub use Rattle.crn_cert.specs.declared.answer.Answer.{Answer}
pub use Rattle.crn_cert.specs.declared.answer.Gap.TheVariants.{Budget, Rests, Wide}
pub use Rattle.crn_cert.specs.declared.answer.Proof.{Proof}
pub use Rattle.crn_cert.specs.declared.answer.Proof.TheVariants.{One, Sides, Two}
pub use Rattle.crn_cert.specs.declared.answer.RankProof.{RankProof}
pub use Rattle.crn_cert.specs.declared.answer.Verdict.{Verdict}
pub use Rattle.crn_cert.specs.declared.answer.Verdict.TheVariants.{Classes, Deficiency, No, NoCycle, NoPair, NoVec, Plane, Rank, Strong, Unknown, Yes, YesSignal, YesVec}
pub use Rattle.crn_check.specs.Check.{AsksForTree, HoldsNeeds, HoldsNoTree, IsBuilt, IsShapeFor, Judges, needs, shown_by_tree}
pub use Rattle.crn_check.specs.Facts.{AreFactsOf, AreInOrder, HoldsNoneFrom, HoldsOn, IsRoom, KeptFacts, asked}
pub use Rattle.crn_check.specs.Inner.Bases.{AreRankProofs, IsBase, is_member, members_of}
pub use Rattle.crn_check.specs.Inner.Facts.{DoesFit}
pub use Rattle.crn_check.specs.Inner.Ordered.{IsSpared, is_tied, ordered_tests, tied}
pub use Rattle.crn_check.specs.Inner.Spaces.{IsBalanced, IsDivisor}
pub use Rattle.crn_check.specs.Inner.Tests.{AreSmallTo, DoExitsLeave, DoFinalsHold, DoListsFit, Falls, exit_tests, link_tests, shape_tests, strong_trees, vector_tests}
pub use Rattle.crn_check.specs.Inner.Trees.{IsInTree}
pub use Rattle.crn_check.specs.declared.facts.Fact.{Fact}
pub use Rattle.crn_check.specs.declared.facts.Room.{Room}
pub use Rattle.crn_check.specs.declared.fault.CheckFault.{CheckFault}
pub use Rattle.crn_check.specs.declared.members.Members.{Members}
pub use Rattle.crn_check.specs.declared.members.Members.TheVariants.{All}
pub use Rattle.crn_shape.proofs.CallerLemmas.{dot_within, narrow_within, tested_sides}
pub use Rattle.crn_shape.specs.Pairs.{is_pair, pairs_to}
pub use Rattle.crn_shape.specs.Sides.{AreClassesBy, AreSides}
pub use Rattle.crn_vec.proofs.CallerLemmas.{above_ascending, above_in, above_lower, all_at, all_from, all_given, all_in, amounts_within, and_no, and_true, any_has, any_is, at_in, column_past, dot_none, dot_split, dot_step, dot_zero, entry-column, entry_of_zeros, eq_or, filter_ascending, filter_few, filter_from, held, in_at, in_left, in_range, label_mark, length-column, length-label_marks, lt_or, negative_space, next_sum, nought_adds, past_end, range_more, reaction_long, refused, signals_are_of_shape, sum_within, vector_at, vector_long, vectors_count, vector_width as width_at, within_at, within_drop, within_more, within_set, within_take, zero_adds, zeros_within}
pub use Rattle.crn_vec.specs.Concordance.{sign}
pub use Rattle.crn_vec.specs.Confluence.{InConfluenceSpace, IsNonzero, IsRegular, LeadsPositive}
pub use Rattle.crn_vec.specs.CutPairs.{IsBetween, IsFreeStep}
pub use Rattle.crn_vec.specs.Deficiency.{IsLabelled, vectors}
pub use Rattle.crn_vec.specs.Elementary.{IsPrimitive}
pub use Rattle.crn_vec.specs.Kept.{KeptNums}
pub use Rattle.crn_vec.specs.Linkage.{IsLinked}
pub use Rattle.crn_vec.specs.Lists.{IsAbove, IsAscending, IsIn}
pub use Rattle.crn_vec.specs.NetSignals.{IsShapeOf, IsSignalOf}
pub use Rattle.crn_vec.specs.NetSystems.{by_species, reaction_system}
pub use Rattle.crn_vec.specs.Network.{IsNetwork, Net, reaction_vector}
pub use Rattle.crn_vec.specs.Rank.{combination_at}
pub use Rattle.crn_vec.specs.Signals.{IsSignal, Shape}
pub use Rattle.crn_vec.specs.Skips.{AreSkips}
pub use Rattle.crn_vec.specs.Strong.{IsReaction, ReactsTo}
pub use Rattle.crn_vec.specs.Sums.{label_marks}
pub use Rattle.crn_vec.specs.Vectors.{AreWithin, column, dot, entry}
pub use Rattle.crn_vec.specs.Walks.{IsAlong}
pub use Rattle.crn_vec.specs.declared.limits.TheConstants.{MAX_AMOUNT, MAX_COMPLEXES, MAX_REACTIONS, MAX_SPECIES, WIDE_SOLUTION}
pub use Rattle.std.proofs.Common.{Bool, Err, IsTrue, List, Ok, Result, [], ap, ap₂, arith, below_more, drop, false, get_or, inl, inr, length, length-append, map, nat_lt, not, of_z, refl, rules, subst, suc, sym, take, take_all, to_z, true, zero, ℕ, ◌*◌, ◌++◌, ◌+◌, ◌-◌, ◌<◌, ◌==◌, ◌^◌, ◌↔◌, ◌∙◌, ◌∷◌, ◌≡◌, ◌≢◌, ◌≤◌, ◌⊎◌}
pub use Rattle.std.proofs.Math.IntN.{*ℤ-zero}
pub use Rattle.std.proofs.Math.Nat.{eq-one_of_dvd-one}
pub use Rattle.std.proofs.Math.Numerals.{add-one}
pub use Rattle.std.proofs.Math.Seq.{drop-append_seam, take-append_seam}
pub use Rattle.std.proofs.lemmas.Bool.{cases_Bool, cases_eq, cases_lt, eq-eqb, eqb-true, false≢true, lt-ltb, ltb-true, ne_eqb}
pub use Rattle.std.proofs.lemmas.Bool.Decides.{Decides-eqb}
pub use Rattle.std.proofs.lemmas.Grind.{common_steps, get_or-set_at}
pub use Rattle.std.proofs.lemmas.Int.{fits_signed_from_abs, ints, to_z-of_z}
pub use Rattle.std.proofs.lemmas.List.{append-nil, append_assoc, drop_more, ext_get_or, get_or-drop, get_or-replicate, get_or-set_other, length-drop, length-map, length-set}
pub use Rattle.std.proofs.lemmas.List.FromFn.{get_or-map-range_with_len, length-range_with_len}
pub use Rattle.std.proofs.lemmas.Nat.Gcd.{dvd-zero, dvd_trans}
pub use Rattle.std.proofs.lemmas.Option.{get_or_from_slice_get, slice_get_within}
pub use Rattle.std.proofs.lemmas.Result.{err_from_is_err_and}
pub use Rattle.std.specs.Int.{w128, ◌∣◌}
pub use Rattle.std.specs.List.{AllByRecursion, AllZip, list_any, range_with_len}
pub use Rattle.std.specs.Option.{IsSomeAnd}
pub use Rattle.std.specs.Prelude.{None, Option, Some, codes, filter, if◌then◌else◌, negsuc, pos, slice_get, slice_set, sum, unsigned_abs, ℤ, ◌*ℤ◌, ◌+ℤ◌, ◌||◌, ◌≤ℤ◌}
