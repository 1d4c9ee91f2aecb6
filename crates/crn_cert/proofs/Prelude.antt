-- What this crate's proofs use of other crates and of its specs.
pub use Rattle.crn_cert.specs.Answers.{verdicts_of}
pub use Rattle.crn_cert.specs.BlockLaw.{BlocksAreOfAnswers}
pub use Rattle.crn_cert.specs.Blocks.{FitsFields, FitsHead, FitsRow, FitsTree, block_of, class_length, class_proofs, head_of, list_in, one_if, proof_by, proof_of, rank_data, rank_proof, side_data, verdict_of}
pub use Rattle.crn_cert.specs.ClassTests.{AreAllExits, AreEven, AreFromTrees, AreLinkTrees, AreSideMarks, AreToTrees, DoLevelsFall, GoesOut, IsExit, IsFirst, IsWayRound, of_class, zeros_in}
pub use Rattle.crn_cert.specs.ConfluenceTests.{DoTerminalsGather, IsInSpace, IsTie, least_from, others_than, tie_at, tie_tests}
pub use Rattle.crn_cert.specs.Data.{Basis, ClassWide, CountAndPart, Datum, Field, Free, FreeSeveral, Int, Ints, IsBasisOf, Led, Marks, Members, Num, Nums, OneAnd, Several, Shelves, Side, Turn, TwoOf, Walk, WideOf}
pub use Rattle.crn_cert.specs.Faults.{fault_number}
pub use Rattle.crn_cert.specs.Formed.{AreFormed, HeadMayBe, IsFormedOf}
pub use Rattle.crn_cert.specs.FormedVerdicts.{FormedAnswersHaveFormedVerdicts, ListsMayBe}
pub use Rattle.crn_cert.specs.Heads.{HeadsDependOnNoLists, bare}
pub use Rattle.crn_cert.specs.Inner.Numbered.{AreNumbered, cuts_listed}
pub use Rattle.crn_cert.specs.Law.{AllTrueOrOpen, AreBuilt, AreTrue, AreTrueOrOpen, IsTrueOrOpen, PairPlacesArePairs, ShapesExist, TestedMarksAreSides, ValidAnswersAreTrue, ValidDocumentsAreTrue, ValidIsTrue, known_for, rests_for}
pub use Rattle.crn_cert.specs.Licensed.{MayRestOn}
pub use Rattle.crn_cert.specs.Nodes.{Fits, Said}
pub use Rattle.crn_cert.specs.Parts.{AreClassProofs, AreSides, AreSignalTrees, IsRankProof}
pub use Rattle.crn_cert.specs.PlanCode.{plan_back}
pub use Rattle.crn_cert.specs.Preorder.{Listed, ListedCutA, ListedCutB, ListedFlat, ListedSplitThree, ListedSplitTwo, NodesAreOfOneTree, first_tree, preorder, tree_of, trees_of}
pub use Rattle.crn_cert.specs.Questions.{Earlier, IsNo, IsOpen, IsYes, Q1, Q10, Q11, Q12, Q13, Q14, Q15, Q2, Q3, Q4, Q5, Q6, Q7, Q8, Q9, Question, count_of, deficiencies_of, exits_of, has_vector, is_yes, labels_of, number, on, questions, rank_of, terminal_of, vector_given}
pub use Rattle.crn_cert.specs.Ranges.{AreBits, AreFree, AreFreeRows, AreFrom, IsFrom, IsNarrow}
pub use Rattle.crn_cert.specs.RankTests.{IsComb, IsDual, comb_tests, dual_tests, outside, rank_tests, vector_of, vectors_of}
pub use Rattle.crn_cert.specs.Says.{AreLinkageClasses, AreStrongClasses, HasNoSignals, IsBaseOf, IsCycle, IsReactionNumber, IsTrueOf, IsTurn, RuleOutConservation, RuleOutDependence, WalkLeads, by_turn, from_zero}
pub use Rattle.crn_cert.specs.Shares.{HasAt, IsShareable, SharesFit, all_cuts, cuts_in, cuts_of, number_in, share_of_cuts}
pub use Rattle.crn_cert.specs.Table.{Row, TreeRow, class_rows, fields, one_or_two, rank_in, rank_rows, row, rows, signal_tree, sizes_of, trees}
pub use Rattle.crn_cert.specs.Tests.{AllHold, FailsFirst, Test}
pub use Rattle.crn_cert.specs.TreeLaw.{TestsDecideValidTrees}
pub use Rattle.crn_cert.specs.TreeSizes.{HasFewNodes, HaveFewNodes}
pub use Rattle.crn_cert.specs.TreeTests.{tree_tests}
pub use Rattle.crn_cert.specs.Trees.{AreNarrow, Both, IsFormedTree, IsValid, Level, Plan, RulesA, RulesB, Three, node_count, places}
pub use Rattle.crn_cert.specs.Valid.{AreClassNumbers, AreValid, HaveOneEach, IsFirstLarge, IsFirstSplit, IsLeft, IsSignalNode, OfVector, WithDeficiencies, class_places, class_rank_tests, confluence_head, confluence_rows, conservation_rows, deficiency_head, deficiency_rows, dependence_rows, ends_at, exits, head_tests, is_in_both, is_least_of_pair, is_same_pair, is_terminal_in, is_within_terminal, linkage, linkage_count, linkage_rows, one_head, pair_places, regular_head, regular_rows, reversible_head, reversible_rows, side_tests, signal_head, signal_rows, strong, strong_rows, table_rows, terminals_in, terminals_of, weak_head, zero_head}
pub use Rattle.crn_cert.specs.Verdicts.{all_tight, tight, tight_proof, tight_rank}
pub use Rattle.crn_cert.specs.declared.answer.Answer.{Answer}
pub use Rattle.crn_cert.specs.declared.answer.Gap.{Gap}
pub use Rattle.crn_cert.specs.declared.answer.Gap.TheVariants.{Budget, Rests, Wide}
pub use Rattle.crn_cert.specs.declared.answer.Proof.{Proof}
pub use Rattle.crn_cert.specs.declared.answer.Proof.TheVariants.{Back, Forest, Nothing, One, Rank as RankRows, Ranks, Sides, Strong as StrongTrees, Ties, Two}
pub use Rattle.crn_cert.specs.declared.answer.RankProof.{RankProof}
pub use Rattle.crn_cert.specs.declared.answer.Verdict.{Verdict}
pub use Rattle.crn_cert.specs.declared.answer.Verdict.TheVariants.{Classes, Deficiency, NoClass, NoCycle, NoDependence, NoNumber, NoPair, NoReaction, NoSum, NoTerminal, NoVec, NotApplicable, NotRegular, OnlyZero, Plane, Rank, Strong, Unknown, Yes, YesSignal, YesVec, YesWeak}
pub use Rattle.crn_cert.specs.declared.head_kind.HeadKind.{HeadKind}
pub use Rattle.crn_cert.specs.declared.head_kind.HeadKind.TheVariants.{No}
pub use Rattle.crn_cert.specs.declared.tree_node.TreeNode.{TreeNode}
pub use Rattle.crn_io.specs.declared.lines.TheConstants.{MAX_SHARED}
pub use Rattle.crn_vec.proofs.CallerLemmas.{above_ascending, above_in, above_zero, across, all_append, all_from, all_in, all_map, all_range, and_cases, and_no, and_true, any_has, any_some, any_true, apart_map, ascending_suc, ascending_tail, assoc, base_gives_rank, below_or, below_suc, chosen-suc, class_back, class_link, class_then, confluence_vectors_are_one, count_no, count_yes, cut_back, cut_long, cuts_exclude_solutions, dot-comm, dot_single, dot_two, dot_unit, dot_zero, dots, entry-column, entry-dots, entry-listed, eq_or, filter_above, filter_from, filter_has, firsts_from, firsts_has, firsts_known, firsts_new, in_left, in_push, in_range, in_right, in_take, inside_at, label_sum, label_sum_is, leads_here, leads_keeps, leads_step, leads_then, left-comm, length-column, length-listed, length-mirror, length-scale, listed, listed_zeros, lt_or, marking_is_cut, marks_are_sides, marks_for, mirror-append, mirror-zero, mirror_feasible, mul-neg, mul-sub, multiples_share_signals, networks_have_tables, no_zero, none_some, not_true, number_is_one, option_or, or_right, past_end, place_of, pos_pos, range_above, range_ascending, range_bounds, range_more, ratios_cross, reached_marks, reaches_step, reaches_then, reaction_in, shapes_are_one, signals_are_steady, signals_feasible, some_is, strong_back, strong_class, strong_then, sum_by, tables_are_steady, tables_feasible, top_inside, unit, up_up, vector_long, weakly_reversible_by_reactions, zero_times, zip_long}
pub use Rattle.crn_vec.specs.Concordance.{IsConcordant, IsDiscordant, IsTable, concordance, sign}
pub use Rattle.crn_vec.specs.Confluence.{HasConfluenceLine, HasNoConfluence, InConfluenceSpace, IsConfluenceVector, IsNonzero, IsNormalVector, IsRegular, negative}
pub use Rattle.crn_vec.specs.CutPairs.{ArePairs, IsBetween, IsCutPair, IsFirstOfPair, IsFreeStep, IsMarking, IsOnSide, IsTerminalPair}
pub use Rattle.crn_vec.specs.Deficiency.{AreAtMostOne, AreDeficiencies, HasOneTerminalEach, HasTerminalClasses, IsClassDeficiency, IsComplex, IsConservative, IsDeficiency, IsFirstSplitClass, IsLabelled, IsPositive, IsPositivelyDependent, class_members, class_vectors, vectors}
pub use Rattle.crn_vec.specs.Elementary.{AreProportional, NamesWide, width}
pub use Rattle.crn_vec.specs.Influence.{plain_table, strong_table}
pub use Rattle.crn_vec.specs.Kept.{KeptInts, KeptNums}
pub use Rattle.crn_vec.specs.Linkage.{IsLabelCount, IsLinked, SameClass}
pub use Rattle.crn_vec.specs.Lists.{IsAbove, IsAscending, IsIn, firsts}
pub use Rattle.crn_vec.specs.NetSignals.{AreTops, HasNoSignal, IsPairOf, IsShapeOf, IsSignalOf, top_at}
pub use Rattle.crn_vec.specs.NetSystems.{by_species, confluence_system, reaction_system}
pub use Rattle.crn_vec.specs.Network.{IsNetwork, IsVector, JoinsTwo, Net, minus, reaction_vector}
pub use Rattle.crn_vec.specs.Problems.{IsFeasible, IsFull, IsPrefix, IsSteady, Signed, mirror}
pub use Rattle.crn_vec.specs.Rank.{DependsOn, IsIndependent, IsRank, chosen, combination_at}
pub use Rattle.crn_vec.specs.Signals.{IsSignal, Pair, Shape, signals}
pub use Rattle.crn_vec.specs.Strong.{AreExits, AreRightStrongLabels, IsReaction, IsTerminal, IsWeaklyReversible, LeavesClass, Reaches, ReactsTo, SameStrong}
pub use Rattle.crn_vec.specs.Sums.{AreMarks, SumsTo, label_marks}
pub use Rattle.crn_vec.specs.Vectors.{Mat, column, dot, entry}
pub use Rattle.crn_vec.specs.Walks.{AreApart, AreLabelsOf, AreRepresentatives, IsNumberOf, LeadsTo}
pub use Rattle.crn_vec.specs.declared.limits.TheConstants.{WIDE_ENTRY, WIDE_SOLUTION}
pub use Rattle.crn_vec.specs.declared.signs.Sign.{Sign}
pub use Rattle.crn_vec.specs.declared.signs.Sign.TheVariants.{Minus, Plus, Zero}
pub use Rattle.indexmap.specs.IndexSet.{insert_key}
pub use Rattle.std.proofs.Common.{Bool, Bor, List, [], add-one, ap, append_assoc, ap₂, arith, cond, drop, false, get_or, if◌then◌else◌, inl, inr, length, length-drop, lit≤, map, not, refl, slice_get, subst, suc, sym, take, take_all, true, zero, ℕ, ◌&&◌, ◌++◌, ◌+◌, ◌-◌, ◌<◌, ◌==◌, ◌||◌, ◌∙◌, ◌∷◌, ◌≡◌, ◌≢◌, ◌≤◌, ◌⊎◌}
pub use Rattle.std.proofs.lemmas.Bool.{cases_Bool, cases_eq, cases_lt, eq-eqb, eqb-true, false≢true, ne_eqb, true≢false}
pub use Rattle.std.proofs.lemmas.Int.{ints}
pub use Rattle.std.proofs.lemmas.List.{append-nil, drop_at, ext_get_or, get_or-map, length-append, length-map, length-replicate, length-take, map-append, take-append-le, take_at, take_more}
pub use Rattle.std.proofs.lemmas.List.Folds.{list_any_at}
pub use Rattle.std.proofs.lemmas.List.FromFn.{get_or-map-range_with_len, get_or-range_with_len, length-range_with_len}
pub use Rattle.std.proofs.lemmas.List.Quantifiers.{position-Some}
pub use Rattle.std.proofs.lemmas.List.Recursion.{is_count_by}
pub use Rattle.std.proofs.lemmas.List.Sums.{count_by-le-length}
pub use Rattle.std.proofs.lemmas.Result.{on_ok_weaker}
pub use Rattle.std.specs.Cmp.Lexicographic.{pointwise}
pub use Rattle.std.specs.Cmp.Rules.{signed_items}
pub use Rattle.std.specs.List.{AllByRecursion, AllZip, count_by, filter, flat_map, list_any, position, range_with_len}
unfoldable pub use Rattle.std.specs.List.{IsDistinct}
pub use Rattle.std.specs.Option.{IsSome, IsSomeAnd}
pub use Rattle.std.specs.Ordering.{int_eq}
pub use Rattle.std.specs.Prelude.{None, Option, Some, codes, min, neg_ℤ, negsuc, pos, replicate, sum, unsigned_abs, ℤ, ◌*ℤ◌, ◌+ℤ◌, ◌-ℤ◌, ◌≤ℤ◌}
