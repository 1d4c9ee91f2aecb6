-- What this crate's proofs use of other crates and of its specs.
pub use Rattle.crn_cert.proofs.CallerLemmas.{AllOf, IsTreeless, below_long, blocks_are_of_answers, class_ascending, classes_formed, shares_fit as cut_shares_fit, duals_long, fields_in, free_there, given, head_back, hold_append, hold_parts, is_true_tight, numbered, rank_formed, rank_long, rows_back, shape_count, shape_with, side_inside, side_marks, side_sum, sides_formed, signal_trees_formed, strong_law, treeless, valid_documents_are_true}
pub use Rattle.crn_cert.specs.Answers.{verdicts_of}
pub use Rattle.crn_cert.specs.Blocks.{Block, FitsBlock, FitsFields, FitsHead, FitsRow, FitsTree, SaysAnswer, at, block_of, class_length, class_proofs, gap_in, ints_in, list_in, nat_in, nums_in, proof_by, proof_of, rank_data, rank_proof, rows_of, second_in, side_data, trees_of}
pub use Rattle.crn_cert.specs.Built.{built}
pub use Rattle.crn_cert.specs.ClassTests.{AreAllExits, AreEven, AreFromTrees, AreLinkTrees, AreNumbered, AreReverses, AreSideMarks, AreToTrees, DoLevelsFall, EachComplex, GoesOut, HangsByLink, HangsFrom, HangsTo, IsExit, IsFirst, IsReverse, IsWayRound, of_class, zeros_in}
pub use Rattle.crn_cert.specs.ConfluenceTests.{DoTerminalsGather, IsInSpace, IsTie, least_from, others_than, tie_at, tie_tests}
pub use Rattle.crn_cert.specs.Data.{Basis, Datum, FreeSeveral, Int, Ints, IsBasisOf, Led, Marks, Num, Nums, Odd, OneAnd, Shelves, Side, Walk, WideOf}
pub use Rattle.crn_cert.specs.Faults.{AfterEnd, BadHeader, BadLeaf, BadNetwork, DocumentTooLong, EndsEarly, Fault, LineTooLong, NodeNotAllowed, TreeEndsEarly, WrongNumber, WrongOrder, WrongShape, WrongVerdict, fault_number}
pub use Rattle.crn_cert.specs.Formed.{HeadMayBe, IsFormed as IsFormedAnswer, IsFormedOf}
pub use Rattle.crn_cert.specs.Law.{AllTrueOrOpen, AreBuilt, IsTrueOrOpen}
pub use Rattle.crn_cert.specs.Nodes.{CutsA, CutsB, Fits as FitsNode, Flats, Said, Splits}
pub use Rattle.crn_cert.specs.Parts.{AreClassProofs, AreSignalTrees, IsRankProof, IsSignalTree}
pub use Rattle.crn_cert.specs.Preorder.{AreNodesOf, preorder}
pub use Rattle.crn_cert.specs.Questions.{Earlier, IsNo, IsOpen, IsYes, Q1, Q10, Q11, Q12, Q13, Q14, Q15, Q2, Q3, Q4, Q5, Q6, Q7, Q8, Q9, Question, count_of, deficiencies_of, exits_of, labels_of, number, on, rank_of, terminal_of, vector_given}
pub use Rattle.crn_cert.specs.Ranges.{AreBits, AreFree, AreFrom, IsFrom}
pub use Rattle.crn_cert.specs.RankTests.{IsComb, IsDual, comb_tests, dual_tests, outside, rank_tests, vector_of, vectors_of}
pub use Rattle.crn_cert.specs.Says.{HasNoReverse, IsReactionNumber, IsShelf, IsTrueOf, IsTurn, RuleOutConservation, RuleOutDependence, WalkLeads, by_turn, from_zero}
pub use Rattle.crn_cert.specs.Shares.{FitsAnswers, HasAt, Shared, all_cuts, cuts_in, cuts_of, number_in, share_of, share_of_cuts}
pub use Rattle.crn_cert.specs.Table.{Row, Sizes, TreeRow, class_rows, fields, one_or_two, others, rank_in, rank_rows, row, rows_by, signal_tree, sizes_of as table_sizes, table_tree, trees}
pub use Rattle.crn_cert.specs.Tests.{AllHold, Test as Claim}
pub use Rattle.crn_cert.specs.TreeSizes.{HasFewNodes, HaveFewNodes}
pub use Rattle.crn_cert.specs.TreeTests.{tree_tests}
pub use Rattle.crn_cert.specs.Trees.{Both, IsFormedTree, Level, Plan, RulesA, RulesB, Three, node_count}
pub use Rattle.crn_cert.specs.Valid.{AreClassNumbers, HasVector, HaveOneBefore, HaveOneEach, IsApartAt, IsClassNumber, IsFirstLarge, IsFirstSplit, IsLeft, IsNodeOf, IsNormal, IsSignalNode, IsValid, IsWithinTerminal, LeavesLabel, OfVector, WithDeficiencies, class_places, class_rank_tests, ends_at, exits, head_tests, is_least_of_pair, is_within_terminal, linkage, linkage_count, pair_places, row_tests, side_tests, signal_head, strong, terminals_in}
pub use Rattle.crn_cert.specs.Verdicts.{tight, tight_gap, tight_nums, tight_proof, tight_rank}
pub use Rattle.crn_cert.specs.declared.answer.Answer.{Answer}
pub use Rattle.crn_cert.specs.declared.answer.Gap.{Gap}
pub use Rattle.crn_cert.specs.declared.answer.Gap.TheVariants.{Budget, Wide, Wide as WideGap}
pub use Rattle.crn_cert.specs.declared.answer.Proof.{Proof}
pub use Rattle.crn_cert.specs.declared.answer.Proof.TheVariants.{Back, Forest, Nothing, One, Rank as RankRows, Ranks, Sides, Strong as StrongTrees, Ties, Two}
pub use Rattle.crn_cert.specs.declared.answer.RankProof.{RankProof}
pub use Rattle.crn_cert.specs.declared.answer.Verdict.{Verdict}
pub use Rattle.crn_cert.specs.declared.answer.Verdict.TheVariants.{Unknown}
pub use Rattle.crn_cert.specs.declared.head_kind.HeadKind.{HeadKind}
pub use Rattle.crn_cert.specs.declared.head_kind.HeadKind.TheVariants.{Classes, Deficiency, No, NoClass, NoCycle, NoDependence, NoNumber, NoPair, NoReaction, NoSum, NoTerminal, NoVec, NotApplicable, NotRegular, OnlyZero, Plane, Rank, Rests, Strong, Yes, YesSignal, YesVec, YesWeak}
pub use Rattle.crn_cert.specs.declared.tree_node.TreeNode.{TreeNode}
pub use Rattle.crn_ctext.specs.Answers.{head_of, head_with, later_records, nodes, proof_nodes, proof_records, rank_records, records, records_below, side_records, small_record, verdict_records}
unfoldable pub use Rattle.crn_ctext.specs.Answers.{all_records}
pub use Rattle.crn_ctext.specs.Blocks.{AfterBlocks, CutA, CutB, Flat, IsNetworkOf, IsRecordOf, Meaning, Node, Problem, ReadOf, Split, after_sections, asks, asks_block, asks_leaf, asks_node, asks_table, below, course, either, ended, goes_on, has_tree, if_signed, leaf, lists_of, network_line, node_of, place_of, reads, reads_of, sections, title, word_of}
unfoldable pub use Rattle.crn_ctext.specs.Blocks.{asks_all, asks_blocks, asks_lines, asks_tree, asks_trees, claims}
pub use Rattle.crn_ctext.specs.Course.{Code, Course, End, Give, IsCode, IsReported, Kind, Line, Own, Test, due, ends, find, number_of, test, test_own, ◌>>=◌, ◌>>◌}
unfoldable pub use Rattle.crn_ctext.specs.Course.{FailsFirst, Gives}
pub use Rattle.crn_ctext.specs.Courses.{none_own}
unfoldable pub use Rattle.crn_ctext.specs.Courses.{IsSettled, IsWrittenBy}
pub use Rattle.crn_ctext.specs.Documents.{AreTrees, FitsShare, IsDocumentOf, IsFormed, IsGoodLeaf, IsNamed, IsOneOf, IsShareable, IsTrueAt, Parts, Share, cut_lists, document, document2, first_leaf, in_sections, is_cut_leaf, later_leaves, leaf_forms, leaf_written, naming_word, one_word, opening, record_lines, section, table_records, written}
unfoldable pub use Rattle.crn_ctext.specs.Documents.{AreFormed, AreValid, IsTree}
pub use Rattle.crn_ctext.specs.Expect.{IsExpectable, IsReadAs, IsRefusedBy, MayBeDue, due_forms, forms_of, is_after, misplaced, question_of, tag_of, text_of, texts}
pub use Rattle.crn_ctext.specs.Inner.Forms.{IsForm, IsNth, IsNthDue, later, no_form, tag}
pub use Rattle.crn_ctext.specs.Inner.Line.{BeginsWithZero, BeginsWithZeros, Came, EndsAt, HasDigits, HasNatural, HasNoNatural, HasNoNumber, HasNumber, IsTail, SaysNumbers, capped, spaced}
pub use Rattle.crn_ctext.specs.Inner.Rows.{IsTable, asked_words, words_of}
pub use Rattle.crn_ctext.specs.Inner.Shapes.{AreMembers, HasBounds, IsBounded, IsJudged, fields_of, has_free}
pub use Rattle.crn_ctext.specs.Inner.Tries.{AreTried, FitFields, IsFit, IsNotFit, IsNotShaped, IsSomeShaped, IsTried, SaysAfter, worst_of}
pub use Rattle.crn_ctext.specs.Inner.Written.{Gathered, Gathers, block, blocks, counter_seen, head_numbers, head_words, headings, leaves_after, node_record, pair_at, pairs_in, question_at, shapes_with, strong_pairs, words_text}
pub use Rattle.crn_ctext.specs.Judged.{AreFormedOf, GoodDocumentsAreOne, IsGood, IsPrefixOf, IsReadOf, LeavesOpen, ReadDocumentsAreGood}
pub use Rattle.crn_ctext.specs.Kinds.{end_form, free_form, just, known_words, node_forms, record_form, row_words, section_form, small, small_form, table_form, tree_words, vector_form}
pub use Rattle.crn_ctext.specs.Linked.{AnswersAreOne, AreSound, ReadDocumentsAreTrue, SharedAnswersAreOne, SharedDocumentsAreGood, SharesFit, WrittenDocumentsAreGood, records_of}
pub use Rattle.crn_ctext.specs.Meaning.{Known, has_vector, is_yes, learn_of, lengths, lists, meaning, nums, pairs_of, problem_over, problem_with, problems_by, ranks_of, class_proofs as said_classes, proof_of as said_proof, rank_proof as said_rank, sizes_of as said_sizes, verdict_of as said_verdict, shapes_of, signal_problem, signal_problems, sizes_of, table_problem, turn_of, verdict_by, verdict_of, verdicts_said, versions, wide_gap}
pub use Rattle.crn_ctext.specs.PartBlocks.{HoldsNoSides, learned, verdicts_on}
pub use Rattle.crn_ctext.specs.PartLines.{AreChoices, IsChoice, IsPartReadAs, IsPartRefusedBy, IsRun, field_of, form_in, forms_in, texts_of}
pub use Rattle.crn_ctext.specs.Parts.{AreJudged, IsPartDocument, IsPartRead, Meant, Part, asks_part, part_course, part_document, part_ending, part_head, part_opening, part_title}
pub use Rattle.crn_ctext.specs.Questions.{Shapes, class_forms, class_rank, first_number, forms_at, forms_from, head_word, heads, if_may, kind_at, kinds, rows as landed_rows, later_numbers, opens, rank_forms, rows, side_form, ways, ways_of, wide_numbers, words}
pub use Rattle.crn_ctext.specs.Records.{AreBetween, AreNarrow, AreOf, AreRising, BeginsWith, ClassWide, CountAndPart, Field, Fits, Form, Free, IsNarrow, IsNatural, IsShaped, IsSpelled, IsWord, Members, Record, Rising, Says, Several, Small, Takes, Turn, TwoOf, field_most, kind_of, line, most_of, number_text, numbers_text, record_text}
pub use Rattle.crn_ctext.specs.Same.{AreSame}
pub use Rattle.crn_ctext.specs.Shares.{as_share}
pub use Rattle.crn_ctext.specs.Steps.{IsRest, StepAwaits, StepEnds, StepFails, StepGives, cut}
unfoldable pub use Rattle.crn_ctext.specs.Steps.{Awaits}
pub use Rattle.crn_ctext.specs.declared.expect.Due.{Due}
pub use Rattle.crn_ctext.specs.declared.expect.Expect.{Expect}
pub use Rattle.crn_ctext.specs.declared.kinds.RecordKind.{RecordKind}
pub use Rattle.crn_ctext.specs.declared.part.Choice.{Choice}
pub use Rattle.crn_ctext.specs.declared.part.Field.{Field as Run}
pub use Rattle.crn_ctext.specs.declared.record_form.Form.{Form as GivenForm}
pub use Rattle.crn_ctext.specs.declared.record_shape.Fit.{Fit}
pub use Rattle.crn_ctext.specs.declared.record_try.Tried.{Tried}
pub use Rattle.crn_ctext.specs.declared.word.Word.{Word}
pub use Rattle.crn_io.proofs.CallerLemmas.{Consumes-then, IsLine-append, Wrote-all, Wrote-prefix, Wrote-then, WroteAll-none, WroteAll-step, WroteAll-then, WrotePrefix-more, WrotePrefix-step, WrotePrefix-then, asked_begun, begun_breaks_last, begun_is_no_line, begun_or_more, break_is_one, breaks_or_not, due_is, flat_map_step, flat_map_whole, line_and_more, line_begun, line_breaks_none, line_is_one, line_is_there, line_or_not, long_breaks, none_ends}
pub use Rattle.crn_io.specs.Device.{SinkSeen, SourceSeen}
pub use Rattle.crn_io.specs.Lines.{BreaksLine, HasMore, IsBegun, IsLine, IsLineAt, LacksLine, Place, beginning, document_too_long, early, line_too_long, otherwise}
pub use Rattle.crn_io.specs.Next.{DueIs, KeptLines, NextGives, NextIs, code_of, place}
pub use Rattle.crn_io.specs.Write.{Wrote, WroteAll, WrotePrefix}
pub use Rattle.crn_io.specs.declared.lines.TheConstants.{MAX_AHEAD, MAX_DOCUMENT, MAX_LINE, MAX_NUMBERS, MAX_SHARED}
pub use Rattle.crn_io.specs.declared.next.Next.{Next}
pub use Rattle.crn_io.specs.declared.next.Next.TheVariants.{Failed, Last}
pub use Rattle.crn_shape.proofs.CallerLemmas.{pairs_no, pairs_yes}
pub use Rattle.crn_shape.specs.Pairs.{is_pair, pairs_to}
pub use Rattle.crn_text.proofs.CallerLemmas.{digit_is, good_terms, held, held_length, judged, line_text, no_fault, no_lf, side_held, side_length, side_text, spelling_unique, spells_its_network, value_grows}
pub use Rattle.crn_text.specs.Canonical.{canonical, complex_text, reaction_line}
pub use Rattle.crn_text.specs.Spells.{Spells}
pub use Rattle.crn_vec.proofs.CallerLemmas.{above_ascending, above_in, abs_back, abs_some, all_append, all_at, all_from, all_in, and_cases, any_true, ascending_tail, at_in, before_one, below_or, cut_long, dot_zero, entry-listed, eq_or, filter_ascending, filter_few, filter_from, filter_has, free_back, head_is, in_left, in_map, in_push, in_range, in_right, inside_at, is_between, leads_back, leads_here, leads_keeps, length-listed, listed, zip_long as lists_long, map_in, none_some, not_true, past_end, positive_some, range_ascending, reached_marks, reaction_in, refused, shapes_are_one, some_is, some_species, strong_back, strong_here, strong_then, sums_one, tail_is, terminal_on, top_inside, weights_decide_cuts, zip_append}
pub use Rattle.crn_vec.specs.Concordance.{GoesWith, HasNegative, HasPositive, IsDiscordant, IsNought, image, shares, sign}
pub use Rattle.crn_vec.specs.Confluence.{IsNonzero, LeadsPositive}
pub use Rattle.crn_vec.specs.CutPairs.{ArePairs, IsBetween, IsCutPair, IsFirstOfPair, IsFreeStep, IsOnSide, IsTerminalPair}
pub use Rattle.crn_vec.specs.Deficiency.{AreAtMostOne, IsConservationLaw, IsPositive, IsPositiveDependence, class_members, vectors}
pub use Rattle.crn_vec.specs.Elementary.{InDualSpace, IsPrimitive}
pub use Rattle.crn_vec.specs.Influence.{plain_table, strong_table}
pub use Rattle.crn_vec.specs.Kept.{KeptInts, KeptNums}
pub use Rattle.crn_vec.specs.Linkage.{IsLabelCount, IsLinked}
pub use Rattle.crn_vec.specs.Lists.{AreDistinct, IsAbove, IsAscending, IsIn, firsts}
pub use Rattle.crn_vec.specs.NetSignals.{AreTops, IsShapeOf, IsSignalOf, IsSignalOver, complex_of, top_at}
pub use Rattle.crn_vec.specs.NetSystems.{reaction_system}
pub use Rattle.crn_vec.specs.Network.{IsNetwork, IsPartialNetwork, IsVector, JoinsTwo, Net}
pub use Rattle.crn_vec.specs.Problems.{Signed, all_zero, opposite}
pub use Rattle.crn_vec.specs.Rank.{combination_at}
pub use Rattle.crn_vec.specs.Signals.{HasPairSign, Shape, shelf_at, shelf_of, signals}
pub use Rattle.crn_vec.specs.Strong.{IsReaction, IsTerminal, Reaches, ReactsTo, SameStrong}
pub use Rattle.crn_vec.specs.Sums.{AreMarks, SumsTo, label_marks}
pub use Rattle.crn_vec.specs.Systems.{AreRuling, HasWeight, IsCut, MayWeigh, is_signed}
pub use Rattle.crn_vec.specs.Vectors.{HasSign, Mat, column, dot, entry}
pub use Rattle.crn_vec.specs.Walks.{IsAlong, LeadsTo}
pub use Rattle.crn_vec.specs.declared.limits.TheConstants.{MAX_BUDGET, MAX_COMPLEXES, MAX_REACTIONS, MAX_SPECIES, WIDE_SOLUTION}
pub use Rattle.crn_vec.specs.declared.signs.Kind.TheVariants.{Neg, NonNeg, Pos}
pub use Rattle.crn_vec.specs.declared.signs.Sign.{Sign}
pub use Rattle.crn_vec.specs.declared.signs.Sign.TheVariants.{Minus, Plus, Zero}
pub use Rattle.std.proofs.Common.{Bool, Err, List, Ok, Result, [], add-one, ap, append_assoc, ap₂, arith, cond, drop, eqb, false, get_or, if◌then◌else◌, inl, inr, length, lit≤, map, min, of_z, refl, rules, set, slice_get, subst, suc, sym, take, take_all, to_z, true, zero, ℕ, ◌%◌, ◌&&◌, ◌*◌, ◌++◌, ◌+◌, ◌-◌, ◌/◌, ◌<◌, ◌==◌, ◌^◌, ◌||◌, ◌↔◌, ◌∙◌, ◌∷◌, ◌≡◌, ◌≤◌, ◌⊎◌}
pub use Rattle.std.proofs.Math.Dec.{eqb-suc-zero}
pub use Rattle.std.proofs.lemmas.Bool.{cases_Bool, cases_lt, eqb-true, le-ltb, lt-ltb}
pub use Rattle.std.proofs.lemmas.Bool.Decides.{eqb_tells, nat_tests}
pub use Rattle.std.proofs.lemmas.Fmt.{decimal_by_steps_wide, decimal_digit, decimal_injective, decimal_is_IsNumeral_wide, decimal_step, decimal_step_wide, length-decimal-le_wide}
pub use Rattle.std.proofs.lemmas.Int.{ints}
pub use Rattle.std.proofs.lemmas.Int.Digits.{digits_more, digits_value_more}
pub use Rattle.std.proofs.lemmas.List.{append-nil, append_cancel_left, append_cancel_right, drop-drop, drop-map, drop_all, drop_at, drop_more, get_or-map, get_or_append_left, length-append, length-map, length-replicate, length-set, length_push, map-append, take-append-drop, take-map, take_at, take_more, take_more_set}
pub use Rattle.std.proofs.lemmas.List.Concat.{flat_map-append}
pub use Rattle.std.proofs.lemmas.List.Elements.{All-cons, All-nil, filter-append}
pub use Rattle.std.proofs.lemmas.List.FromFn.{get_or-map-range_with_len, length-map-range_with_len, length-range_with_len}
pub use Rattle.std.proofs.lemmas.List.Splits.{join_with_byte-slice_split, slice_split_at, slice_split_none}
pub use Rattle.std.proofs.lemmas.Nat.{le_bytes_8}
pub use Rattle.std.proofs.lemmas.Nat.Gcd.{dvd-zero, dvd_of_mod-eq-zero, le_of_dvd, mod-eq-zero_of_dvd}
pub use Rattle.std.proofs.lemmas.Result.{err_from_is_err_and}
pub use Rattle.std.proofs.lemmas.Slice.Eq.{bytes_eq-Decides}
pub use Rattle.std.specs.Borrow.{Bor}
pub use Rattle.std.specs.Char.{digit_value}
pub use Rattle.std.specs.Cmp.Lexicographic.{pointwise}
pub use Rattle.std.specs.Fmt.{signed_decimal}
unfoldable pub use Rattle.std.specs.Fmt.{digits}
pub use Rattle.std.specs.Int.{from_le_bytes, to_le_bytes, w128, w64, ◌∣◌}
pub use Rattle.std.specs.List.{All, AllByRecursion, AllZip, filter, flat_map, join_with_byte, list_all, list_any, range_with_len, slice_split}
pub use Rattle.std.specs.Option.{IsSome, IsSomeAnd}
pub use Rattle.std.specs.Ordering.{int_eq}
pub use Rattle.std.specs.Prelude.{IsTrue, None, Option, Some, codes, decimal, nat_le, nat_lt, neg_ℤ, negsuc, not, pos, replicate, slice_index, slice_index_or, sum, unsigned_abs, ℤ, ◌*ℤ◌, ◌-ℤ◌, ◌<ℤ◌, ◌≢◌, ◌≤ℤ◌}
pub use Rattle.std.specs.Str.{bytes_eq}
pub use Rattle.std.specs.Str.Parse.{AllDigits, digits_value, digits_value_after}
