-- What this crate's proofs use of other crates and of its specs.
pub use Rattle.crn_cert.proofs.CallerLemmas.{all_vectors, class_vectors_are, classes_are_formed, fails_by_complexes, fails_by_exit, hold_append, passes_at, terminals_few, terminals_no, terminals_yes, valid_answers_are_true, wide_basis}
pub use Rattle.crn_cert.specs.Answered.{IsAnswer}
pub use Rattle.crn_cert.specs.Answers.{plain}
pub use Rattle.crn_cert.specs.ClassTests.{AreAllExits, AreFromTrees, AreNumbered, AreToTrees, DoLevelsFall, of_class, zeros_in}
pub use Rattle.crn_cert.specs.Data.{IsBasisOf}
pub use Rattle.crn_cert.specs.Formed.{IsFormed, IsFormedOf, IsWideGap}
pub use Rattle.crn_cert.specs.Given.{GiveClasses, GiveRank}
pub use Rattle.crn_cert.specs.Law.{IsTrueOrOpen}
pub use Rattle.crn_cert.specs.Licensed.{IsClassWide, IsTrueOrLicensed}
pub use Rattle.crn_cert.specs.Parts.{AreClassProofs, IsClassProof, IsForest, IsRankProof}
pub use Rattle.crn_cert.specs.Questions.{Earlier, IsOpen, IsYes, Q1, Q10, Q2, Q4, Q5, Q6, Q9, Question, count_of, deficiencies_of, on, rank_of}
pub use Rattle.crn_cert.specs.Ranges.{AreFrom, IsFrom}
pub use Rattle.crn_cert.specs.RankTests.{rank_tests, vector_of, vectors_of}
pub use Rattle.crn_cert.specs.Says.{AreLinkageClasses, AreStrongClasses}
pub use Rattle.crn_cert.specs.Tests.{AllHold}
pub use Rattle.crn_cert.specs.Valid.{HaveOneBefore, HaveOneEach, IsClassNumber, IsFirstLarge, IsFirstSplit, IsLeft, IsValid, WithDeficiencies, class_places, class_rank_tests, exits, is_in_both, is_terminal_in, linkage, linkage_count, terminals_in, terminals_of}
pub use Rattle.crn_cert.specs.Verdicts.{tight}
pub use Rattle.crn_cert.specs.declared.answer.Answer.{Answer}
pub use Rattle.crn_cert.specs.declared.answer.Gap.TheVariants.{Rests, Wide}
pub use Rattle.crn_cert.specs.declared.answer.Proof.TheVariants.{Nothing, Ranks, Strong as StrongTrees}
pub use Rattle.crn_cert.specs.declared.answer.RankProof.{RankProof}
pub use Rattle.crn_cert.specs.declared.answer.Verdict.{Verdict}
pub use Rattle.crn_cert.specs.declared.answer.Verdict.TheVariants.{Classes, Deficiency, NoClass, NoNumber, NoSum, NoTerminal, Rank, Strong, Unknown, Yes, YesWeak}
pub use Rattle.crn_defi.specs.Inner.ClassRanks.{AreClassRanks, IsClass, IsClassRank, IsStop, reactions_of}
pub use Rattle.crn_defi.specs.Inner.Terminals.{AreClassNumbers, HaveOneUpTo, IsFewOrOpen, IsFirstWithMore, IsOfTerminal, IsVerdictAfter, IsVerdictOn}
pub use Rattle.crn_graph.proofs.CallerLemmas.{one_count, one_labels}
pub use Rattle.crn_graph.specs.declared.linkage_data.LinkageData.{LinkageData}
pub use Rattle.crn_graph.specs.declared.strong_data.StrongData.{StrongData}
pub use Rattle.crn_rank.specs.Rank.{AreMembers, IsWideStop, ProvesRank, member_matrix}
pub use Rattle.crn_space.proofs.CallerLemmas.{number_of_classes as classes_number, few_together, labels_few, rank_leaves as leaves, one_label, range_distinct, rank_from, taken, taken_in, taken_vectors}
pub use Rattle.crn_vec.proofs.CallerLemmas.{all_from, all_in, and_cases, and_no, and_true, any_has, any_push, any_some, eq_or, filter_ascending, filter_distinct, filter_few, filter_from, filter_has, filter_no, filter_yes, first_goes, first_stays, in_range, inside_at, leads_keeps, lt_or, range_ascending, range_bounds, range_more, reaction_in}
pub use Rattle.crn_vec.specs.Deficiency.{AreAtMostOne, AreDeficiencies, HasOneTerminalEach, HasTerminalClasses, IsClassDeficiency, IsComplex, IsDeficiency, IsFirstSplitClass, IsLabelled, class_members, class_reactions, class_vectors, vectors}
pub use Rattle.crn_vec.specs.Elementary.{NamesWide}
pub use Rattle.crn_vec.specs.Kept.{KeptNums}
pub use Rattle.crn_vec.specs.Linkage.{AreRightLabels, IsLabelCount, SameClass}
pub use Rattle.crn_vec.specs.Lists.{IsAscending, IsIn}
pub use Rattle.crn_vec.specs.NetSystems.{class_system}
pub use Rattle.crn_vec.specs.Network.{IsNetwork, JoinsTwo, Net, ends, reaction_vector}
pub use Rattle.crn_vec.specs.Rank.{IsIndependent, IsRank}
pub use Rattle.crn_vec.specs.Strong.{IsTerminal, IsWeaklyReversible, LeavesClass, Reaches, ReactsTo, SameStrong}
pub use Rattle.crn_vec.specs.Vectors.{Mat}
pub use Rattle.crn_vec.specs.Walks.{IsNumberOf}
pub use Rattle.std.proofs.Common.{Bool, List, None, [], ap, arith, false, get_or, inl, inr, length, not, refl, subst, suc, sym, take, true, zero, ℕ, ◌++◌, ◌+◌, ◌-◌, ◌<◌, ◌==◌, ◌∙◌, ◌∷◌, ◌≡◌, ◌≢◌, ◌≤◌, ◌⊎◌}
pub use Rattle.std.proofs.lemmas.Bool.{cases_Bool, eq-eqb, eqb-true, false≢true, ne_eqb}
pub use Rattle.std.proofs.lemmas.List.{length-append, length-map, length-take}
pub use Rattle.std.proofs.lemmas.List.FromFn.{length-range_with_len}
pub use Rattle.std.proofs.lemmas.List.Sums.{count_by-le-length, length-filter, sum_by-cons}
pub use Rattle.std.specs.List.{AllByRecursion, list_any, range_with_len}
pub use Rattle.std.specs.Option.{IsSome}
pub use Rattle.std.specs.Prelude.{IfSome, IsTrue, MatchOption, Option, Some, count_by, filter, min, slice_index, slice_index_or, sum, ℤ, ◌↔◌}
