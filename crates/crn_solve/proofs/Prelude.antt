-- What this crate's proofs use of other crates and of its specs.
pub use Rattle.crn_cert.proofs.CallerLemmas.{all_vectors, count_tight, exits_tight, is_true_tight, labels_tight, no_tight, open_tight, rank_is_formed, rank_tight, sides_formed, treeless, treeless_few, valid_answers_are_true, vector_tight, weak_no, weak_yes, yes_tight}
pub use Rattle.crn_cert.specs.Answered.{IsAnswer}
pub use Rattle.crn_cert.specs.Answers.{plain, verdicts_of}
pub use Rattle.crn_cert.specs.Built.{built}
pub use Rattle.crn_cert.specs.ClassTests.{AreEven}
pub use Rattle.crn_cert.specs.Formed.{AreFormed, IsFormed, IsFormedOf, IsWideGap}
pub use Rattle.crn_cert.specs.Given.{GiveClasses, GiveRank}
pub use Rattle.crn_cert.specs.Law.{IsTrueOrOpen}
pub use Rattle.crn_cert.specs.Licensed.{AllTrueOrLicensed, IsLicensedBudget, IsTrueOrLicensed, PassForSignals}
pub use Rattle.crn_cert.specs.Questions.{Earlier, IsNo, IsOpen, IsYes, Q1, Q10, Q11, Q12, Q13, Q14, Q15, Q2, Q3, Q4, Q5, Q6, Q7, Q8, Q9, Question, on, rank_of, vector_given}
pub use Rattle.crn_cert.specs.Ranges.{AreFree, IsFrom, IsNarrow}
pub use Rattle.crn_cert.specs.Says.{AreLinkageClasses, AreStrongClasses, IsTrueOf, RuleOutConservation, RuleOutDependence}
pub use Rattle.crn_cert.specs.Table.{trees}
pub use Rattle.crn_cert.specs.TreeSizes.{HasFewNodes, HaveFewNodes}
pub use Rattle.crn_cert.specs.Valid.{AreValid, IsValid, linkage, linkage_count, strong}
pub use Rattle.crn_cert.specs.Verdicts.{tight}
pub use Rattle.crn_cert.specs.declared.answer.Answer.{Answer}
pub use Rattle.crn_cert.specs.declared.answer.Gap.TheVariants.{Rests, Wide as WideGap}
pub use Rattle.crn_cert.specs.declared.answer.Proof.{Proof}
pub use Rattle.crn_cert.specs.declared.answer.Proof.TheVariants.{Forest, Nothing, Rank as RankRows, Sides, Strong as StrongTrees, Ties}
pub use Rattle.crn_cert.specs.declared.answer.RankProof.{RankProof}
pub use Rattle.crn_cert.specs.declared.answer.Verdict.{Verdict}
pub use Rattle.crn_cert.specs.declared.answer.Verdict.TheVariants.{Classes, NoCycle, NoDependence, NoReaction, NoTerminal, NotApplicable, NotRegular, Rank, Strong, Unknown, Yes, YesVec}
pub use Rattle.crn_cert.specs.declared.head_kind.HeadKind.{HeadKind}
pub use Rattle.crn_conc.proofs.CallerLemmas.{column_is, combined_past, if_ok, length-rows_after, reaction_long, row_is, rows_after, rows_count, some_species, vector_at, vector_width, vectors_count, wide_basis, within_append}
pub use Rattle.crn_conc.specs.Answers.{IsTableAnswer}
pub use Rattle.crn_defi.proofs.CallerLemmas.{all_places, are_members, ascending_few, few_independent, one_independent, rank_is, same_if_none, strong_right, true_or_open, zero_rests}
pub use Rattle.crn_farkas.proofs.CallerLemmas.{decision_from}
pub use Rattle.crn_farkas.specs.Decision.{IsDecision, IsSmallCut, IsSmallSolution, IsStop, IsTargetStop}
pub use Rattle.crn_farkas.specs.Solver.{IsRuledOut}
pub use Rattle.crn_farkas.specs.declared.decision.Decision.{Decision}
pub use Rattle.crn_farkas.specs.declared.decision.Decision.TheVariants.{Feasible, Infeasible}
pub use Rattle.crn_farkas.specs.declared.fault.Stop.{Stop}
pub use Rattle.crn_farkas.specs.declared.fault.Stop.TheVariants.{NoMemory, Wide}
pub use Rattle.crn_graph.specs.declared.linkage_data.LinkageData.{LinkageData}
pub use Rattle.crn_graph.specs.declared.strong_data.StrongData.{StrongData}
pub use Rattle.crn_rank.specs.Rank.{AreMembers, IsWideStop, ProvesRank, member_matrix}
pub use Rattle.crn_shape.proofs.CallerLemmas.{tested_sides}
pub use Rattle.crn_shelf.specs.Given.{GiveVector}
pub use Rattle.crn_shelf.specs.Order.{IsForNegative}
pub use Rattle.crn_shelf.specs.Visits.{ListSignalVisits}
pub use Rattle.crn_solve.specs.Inner.Answered.{IsDecidedAnswer, IsFirstLeaving, IsRankOrOpen, JoinsTwoLabels}
pub use Rattle.crn_solve.specs.Inner.ClassData.{AreLinkageData, AreStrongData}
pub use Rattle.crn_solve.specs.Inner.Given.{IsRankAnswer, vector_answer}
pub use Rattle.crn_solve.specs.Inner.Sides.{GiveSides}
pub use Rattle.crn_solve.specs.Inner.Solved.{AreAnswers, AreFirstAnswers, FirstAreDecided, IsVectorFirst, first_questions}
pub use Rattle.crn_solve.specs.Laws.{IsLawDecision, IsLawStop}
pub use Rattle.crn_solve.specs.Spent.{AreOpenIfSpent}
pub use Rattle.crn_solve.specs.Visits.{AllListVisits, HaveNodeForEachVisit}
pub use Rattle.crn_vec.proofs.CallerLemmas.{all_at, all_given, at_in, dot-comm, flat_map_push, kinds_at, lt_or, place_of, range_more, same_place, some_is, vector_long}
pub use Rattle.crn_vec.specs.Confluence.{IsNormalVector, IsRegular, negative}
pub use Rattle.crn_vec.specs.Deficiency.{IsConservationLaw, IsLabelled, IsPositive, IsPositiveDependence, vectors}
pub use Rattle.crn_vec.specs.Elementary.{NamesWide, width}
pub use Rattle.crn_vec.specs.Influence.{plain_table, strong_table}
pub use Rattle.crn_vec.specs.Kept.{KeptInts, KeptNums}
pub use Rattle.crn_vec.specs.Lists.{IsIn}
pub use Rattle.crn_vec.specs.Matrices.{mat_of}
pub use Rattle.crn_vec.specs.NetSignals.{HasNoSignal}
pub use Rattle.crn_vec.specs.NetSystems.{positive_kinds, reaction_system, species_system}
pub use Rattle.crn_vec.specs.Network.{IsNetwork, JoinsTwo, Net, reaction_vector}
pub use Rattle.crn_vec.specs.Rank.{IsChoice, IsRank, chosen, combination_at}
pub use Rattle.crn_vec.specs.Strong.{IsWeaklyReversible}
pub use Rattle.crn_vec.specs.Systems.{HasKind, HasOneRowCut, MayWeigh, is_signed, kind_at, signed_count}
pub use Rattle.crn_vec.specs.Vectors.{AreOfLength, AreWithin, Mat, column, dot, entry}
pub use Rattle.crn_vec.specs.declared.limits.TheConstants.{MAX_AMOUNT, MAX_REACTIONS, WIDE_ENTRY}
pub use Rattle.crn_vec.specs.declared.signs.Kind.{Kind}
pub use Rattle.crn_vec.specs.declared.signs.Kind.TheVariants.{Free, Pos, Zero}
pub use Rattle.std.proofs.Common.{List, None, Some, [], ap, ap₂, arith, below_more, drop, get_or, inl, inr, length, refl, subst, suc, sym, take, zero, ℕ, ◌*◌, ◌++◌, ◌+◌, ◌-◌, ◌<◌, ◌==◌, ◌↔◌, ◌∙◌, ◌∷◌, ◌≡◌, ◌≢◌, ◌≤◌, ◌⊎◌}
pub use Rattle.std.proofs.Math.ListN.{get_or-append, replicate}
pub use Rattle.std.proofs.lemmas.Bool.{cases_Bool, eq-eqb, eqb-true, false≢true}
pub use Rattle.std.proofs.lemmas.Int.{ints}
pub use Rattle.std.proofs.lemmas.List.{append_assoc, get_or-append_right, get_or-replicate, get_or-take, length-append, length-drop, length-map, length-replicate, length-take-le, map-append, take_more}
pub use Rattle.std.specs.List.{AllByRecursion, flat_map, range_with_len}
pub use Rattle.std.specs.Option.{IsSome, IsSomeAnd}
pub use Rattle.std.specs.Prelude.{Bool, Err, IfOk, IfSome, IsTrue, Ok, Option, Result, false, min, neg_ℤ, negsuc, pos, slice_index_or, true, unsigned_abs, zip, ℤ, ◌≤ℤ◌}
pub use Rattle.std.specs.Result.{MatchResult}
