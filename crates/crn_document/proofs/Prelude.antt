-- What this crate's proofs use of other crates and of its specs.
pub use Rattle.crn_cert.proofs.CallerLemmas.{AllOf, few_numbers, fields_in, given, head_back, hold_parts, none_at_all, shape_count, shapes_exist, some_number, tests_by_heads}
pub use Rattle.crn_cert.specs.Blocks.{FitsFields, FitsHead, one_if}
pub use Rattle.crn_cert.specs.Built.{built}
pub use Rattle.crn_cert.specs.ConfluenceTests.{tie_tests}
pub use Rattle.crn_cert.specs.Data.{Basis, Datum, IsBasisOf, Led}
pub use Rattle.crn_cert.specs.Faults.{BadEvidence, BadNetwork, Fault, NodeNotAllowed, TreeEndsEarly, TreeGoesOn, WrongOrder, fault_number}
pub use Rattle.crn_cert.specs.Formed.{HeadMayBe, IsFormed, IsFormedOf}
pub use Rattle.crn_cert.specs.FormedVerdicts.{IsFormedVerdict}
pub use Rattle.crn_cert.specs.Heads.{bare}
pub use Rattle.crn_cert.specs.Law.{IsTrueOrOpen}
pub use Rattle.crn_cert.specs.Nodes.{AreNumbersFor, CutsA, CutsB, Flats, Passing, Said, Splits}
pub use Rattle.crn_cert.specs.Parts.{AreClassProofs, IsRankProof}
pub use Rattle.crn_cert.specs.Questions.{Earlier, IsYes, Q1, Q10, Q11, Q12, Q13, Q14, Q15, Q2, Q3, Q4, Q5, Q6, Q7, Q8, Q9, Question, count_of, labels_of, number, on, terminal_of, vector_given}
pub use Rattle.crn_cert.specs.Ranges.{AreFree, AreFreeRows, IsNarrow}
pub use Rattle.crn_cert.specs.RankTests.{comb_tests, dual_tests, rank_tests}
pub use Rattle.crn_cert.specs.Says.{IsTrueOf, IsTurn, by_turn}
pub use Rattle.crn_cert.specs.Table.{Sizes, fields}
pub use Rattle.crn_cert.specs.Tests.{AllHold, FailsFirst, Test}
pub use Rattle.crn_cert.specs.Valid.{AreClassNumbers, HasVector, IsNodeOf, OfVector, class_places, class_rank_tests, confluence_head, ends_at, exits, head_tests, is_least_of_pair, is_within_terminal, linkage, linkage_count, pair_places, row_tests, side_tests, strong, tests_of}
pub use Rattle.crn_cert.specs.Verdicts.{tight}
pub use Rattle.crn_cert.specs.declared.answer.Answer.{Answer}
pub use Rattle.crn_cert.specs.declared.answer.Gap.TheVariants.{Wide}
pub use Rattle.crn_cert.specs.declared.answer.Proof.{Proof}
pub use Rattle.crn_cert.specs.declared.answer.Proof.TheVariants.{Ranks, Sides}
pub use Rattle.crn_cert.specs.declared.answer.RankProof.{RankProof}
pub use Rattle.crn_cert.specs.declared.answer.Verdict.{Verdict}
pub use Rattle.crn_cert.specs.declared.answer.Verdict.TheVariants.{No, Unknown, Yes, YesVec}
pub use Rattle.crn_cert.specs.declared.head_kind.HeadKind.{HeadKind}
pub use Rattle.crn_cert.specs.declared.head_kind.HeadKind.TheVariants.{Budget, Classes, Deficiency, NoClass, NoCycle, NoDependence, NoNumber, NoPair, NoReaction, NoSum, NoTerminal, NoVec, NotApplicable, NotRegular, OnlyZero, Plane, Rank, Rests, Strong, YesSignal, YesWeak}
pub use Rattle.crn_check.proofs.CallerLemmas.{answer_treeless, asked_number, built_at, by_question, classes_known, formed_on, needs_held, none_from, sides_of_answer, sound_on, strong_true, terminal_few as terminal_fits, weak_true}
pub use Rattle.crn_check.specs.Check.{AsksForTree, HoldsNeeds, HoldsNoSignal, HoldsNoTree, IsBuilt, IsShapeFor, Judges, shown_by_tree, tree_place}
pub use Rattle.crn_check.specs.Facts.{AreFactsOf, HoldsNoneFrom, HoldsOn, KeptFacts, asked}
pub use Rattle.crn_check.specs.declared.fault.CheckFault.{CheckFault}
pub use Rattle.crn_ctext.proofs.CallerLemmas.{AreShort, HoldTogether, IsLike, all_same, awaited_open, awaits_before, awaits_parts, awaits_then, fails_before, fails_parts, fails_then, fails_with_a_code, given_back, gives_parts, gives_then, head, head_record, head_typed, like_itself, like_then, no, no_by, none_by, numbers_of, open_by, read_true, records_formed, rests, rests_place, settled, spent, spent_place, split_known, step_awaits_like, step_fails_like, step_fails_then, step_gives_like, step_then, text_says, trees_like, turn_is, wide, wide_signal, yes, zip_long}
pub use Rattle.crn_ctext.specs.Blocks.{AfterBlocks, CutA, CutB, Flat, IsNetworkOf, Node, Problem, ReadOf, Split, after_sections, asks, asks_block, asks_leaf, asks_lines, asks_node, asks_table, below, either, goes_on, has_tree, leaf, lists_of, node_of, place_of, reads, sections, word_of}
unfoldable pub use Rattle.crn_ctext.specs.Blocks.{asks_all, asks_blocks, asks_tree, asks_trees, claims}
pub use Rattle.crn_ctext.specs.Course.{Course, Give, IsReported, due, find, test, ◌>>=◌}
unfoldable pub use Rattle.crn_ctext.specs.Course.{Gives}
pub use Rattle.crn_ctext.specs.Courses.{none_own}
pub use Rattle.crn_ctext.specs.Documents.{IsOneOf}
pub use Rattle.crn_ctext.specs.Expect.{AreSizes, IsReadAs, MayBeDue, due_forms, forms_of, is_after, misplaced, question_of, section_names, tag_of, text_of}
pub use Rattle.crn_ctext.specs.Judged.{IsReadOf}
pub use Rattle.crn_ctext.specs.Kinds.{end_form, free_form, head_words, just, known_words, node_forms, record_form, row_words, section_form, small, small_form, table_form, tree_words, vector_form}
pub use Rattle.crn_ctext.specs.Linked.{AreSound}
pub use Rattle.crn_ctext.specs.Meaning.{Known, class_proofs, has_vector, is_yes, sizes_of as known_sizes, learn_of, lengths, lists, meaning, nums, pairs_of, problem_with, problems_by, proof_by, proof_of, rank_proof, ranks_of, row, shapes_of, signal_problem, signal_problems, sizes_of, verdict_by, verdict_of, verdicts_said}
pub use Rattle.crn_ctext.specs.Questions.{class_forms, decided, first_number, head_word, heads, kind_at, later_numbers, open_kinds, opens, rank_forms, rows, side_form, words}
pub use Rattle.crn_ctext.specs.Records.{AreBetween, AreNarrow, AreOf, BeginsWith, ClassWide, CountAndPart, Field, Fits, Form, Free, FreeSeveral, IsShaped, Members, Record, Says, Several, Takes, Turn, TwoOf, kind_of, record_text}
pub use Rattle.crn_ctext.specs.Steps.{StepFails, StepGives}
unfoldable pub use Rattle.crn_ctext.specs.Steps.{Awaits}
pub use Rattle.crn_ctext.specs.declared.expect.Due.{Due}
pub use Rattle.crn_ctext.specs.declared.expect.Due.TheVariants.{Base as DueBase}
pub use Rattle.crn_ctext.specs.declared.expect.Expect.{Expect}
pub use Rattle.crn_ctext.specs.declared.word.Word.{Word}
pub use Rattle.crn_ctree.proofs.CallerLemmas.{complete_trees_show, free_a, free_b, free_shape, passing_none, passing_taken, signal_nodes}
pub use Rattle.crn_ctree.specs.Due.{first, rest}
pub use Rattle.crn_ctree.specs.Gives.{IsTaken, NodeGives, SharedGives, code_of, said_by}
pub use Rattle.crn_ctree.specs.Known.{KeptCut, KeptCuts}
pub use Rattle.crn_ctree.specs.Problem.{problem_of}
pub use Rattle.crn_ctree.specs.Shared.{IsShared, said_by_shared}
pub use Rattle.crn_ctree.specs.declared.fault.TreeFault.{TreeFault}
pub use Rattle.crn_ctree.specs.declared.fault.TreeFault.TheVariants.{BadLeaf, WrongShape}
pub use Rattle.crn_ctree.specs.declared.node.Step.{Step}
pub use Rattle.crn_ctree.specs.declared.node.Step.TheVariants.{Complete, More}
pub use Rattle.crn_ctree.specs.declared.problem.InfluenceTable.TheVariants.{Plain}
pub use Rattle.crn_ctree.specs.declared.problem.Problem.{Problem as TreeProblem}
pub use Rattle.crn_ctree.specs.declared.problem.Problem.TheVariants.{Concordance, Signals}
pub use Rattle.crn_document.specs.Check.{CheckGives, HasFaultNumber, IsAccepted, IsAnswered, IsFaultNumber}
pub use Rattle.crn_document.specs.Facts.{IsAfterFacts, IsKnownFor, after_facts}
pub use Rattle.crn_document.specs.Inner.Answer.{AreSmall, AreSmallAt, kept, verdict_of_head}
pub use Rattle.crn_document.specs.Inner.Answers.{FitAnswer, FitProof, part_proofs, proof_of_head}
pub use Rattle.crn_document.specs.Inner.Blocks.{HeadHolds, IsAfter, IsAt, IsBlock, IsOpened, IsRead, IsReady, IsReadyFor, KeepSides, Learns, after_at, after_by, end_course, forms_below, head_course, many_after, parts_after, rows_course, still_by_tree, tests_course}
pub use Rattle.crn_document.specs.Inner.Courses.{IsSaidIn, IsWhole, last_course, rest_course, whole_course}
pub use Rattle.crn_document.specs.Inner.Ending.{asks_end}
pub use Rattle.crn_document.specs.Inner.Heads.{FitsCounts, HasClassSizes, IsHead, class_count, head_forms, known_of, tagged}
pub use Rattle.crn_document.specs.Inner.Lists.{AreSpans, span_of, spans_of}
pub use Rattle.crn_document.specs.Inner.Met.{AreMet, IsCutOf, IsDueNodeLine, IsMet, IsMetAt, IsNodeLineAs, SaysPlainly, plain_node}
pub use Rattle.crn_document.specs.Inner.Parts.{FitParts, IsKnown, IsLinkage, before, class_counts, class_part, class_parts, is_in_class, members_of, parts_below, parts_by}
pub use Rattle.crn_document.specs.Inner.Plain.{IsPlain, plain_form}
pub use Rattle.crn_document.specs.Inner.Records.{AreMembers, AreRows, Expects, IsOwnDue, IsPartDue, IsRow, IsRowDue, MayBeRow, fixed_rows, many_rows, part_rows, row_form, rows_below}
pub use Rattle.crn_document.specs.Inner.Signals.{vector_or_none}
pub use Rattle.crn_document.specs.Inner.Table.{AreListed, IsCount, IsTable, MovesBy}
pub use Rattle.crn_document.specs.Inner.Trees.{ExpectsNode, HasNodeDue, IsNode, IsSaidAs, JudgeGives, Leaves, NamesTo, TakesSome, after_node, asks_node_for, asks_one, choices_in, count_a, node_test, problem_in}
unfoldable pub use Rattle.crn_document.specs.Inner.Trees.{asks_due}
pub use Rattle.crn_document.specs.declared.block.Block.{Block}
pub use Rattle.crn_document.specs.declared.block.Checked.{Checked}
pub use Rattle.crn_document.specs.declared.check.Accepted.{Accepted}
pub use Rattle.crn_document.specs.declared.linkage.Linkage.{Linkage}
pub use Rattle.crn_document.specs.declared.met.MetLine.{MetLine}
pub use Rattle.crn_document.specs.declared.node.NodeLine.{NodeLine}
pub use Rattle.crn_document.specs.declared.node.NodeLine.TheVariants.{Read}
pub use Rattle.crn_document.specs.declared.parts.Part.{Part}
pub use Rattle.crn_document.specs.declared.plain.Plain.TheVariants.{Table, Vector}
pub use Rattle.crn_document.specs.declared.rows.Row.{Row}
pub use Rattle.crn_document.specs.declared.rows.Row.TheVariants.{Comb, Dual, M, Mu, Shelves, Side, Tie, Weights}
pub use Rattle.crn_io.proofs.CallerLemmas.{begun_none}
pub use Rattle.crn_io.specs.Device.{SourceSeen}
pub use Rattle.crn_io.specs.Lines.{Place, beginning}
pub use Rattle.crn_io.specs.Next.{KeptLines, place}
pub use Rattle.crn_io.specs.declared.lines.TheConstants.{MAX_DOCUMENT, MAX_NUMBERS, MAX_SHARED}
pub use Rattle.crn_reading.proofs.CallerLemmas.{end_exits, last_all, last_exits, last_is, last_then, memory_stops, read_to_the_end, reads_one, step_exits, step_gives, step_map, step_says, step_then_ends, step_then_is, stop_after, stop_first, stops_here, tests_fail, tests_give, text_answered, text_read}
pub use Rattle.crn_reading.specs.Ending.{EndStepIs, LastIs, ends_with}
pub use Rattle.crn_reading.specs.Opening.{count_course, network_course, title_course}
pub use Rattle.crn_reading.specs.Reads.{AnswersWith, IsAnsweredBy, ReadingGives}
pub use Rattle.crn_reading.specs.Records.{IsSaid, asks_for}
pub use Rattle.crn_reading.specs.Steps.{CanRead, GoesOn, IsNew, IsVersion, StepIs, StopIs}
pub use Rattle.crn_reading.specs.declared.fault.CheckStop.{CheckStop}
pub use Rattle.crn_reading.specs.declared.reading.Reading.{Reading}
pub use Rattle.crn_shape.proofs.CallerLemmas.{pairs_no, pairs_yes}
pub use Rattle.crn_shape.specs.Pairs.{pairs_to}
pub use Rattle.crn_shape.specs.Sides.{AreClassesBy, AreSides}
pub use Rattle.crn_vec.proofs.CallerLemmas.{above_ascending, abs_back, all_append, all_from, all_in, and_first, filter_above, filter_few, filter_from, in_right, length-scale, negatives_have_opposite_shapes, range_above, range_bounds, range_more, reaction_in, rows_count, shapes_are_one, weakly_reversible_by_reactions}
pub use Rattle.crn_vec.specs.Confluence.{HasConfluenceLine, IsNormalVector, IsRegular, negative}
pub use Rattle.crn_vec.specs.Deficiency.{class_members}
pub use Rattle.crn_vec.specs.Kept.{KeptInts, KeptNums}
pub use Rattle.crn_vec.specs.Lists.{IsAscending, IsIn}
pub use Rattle.crn_vec.specs.NetSignals.{HasNoSignal, IsShapeOf, opposite_shape}
pub use Rattle.crn_vec.specs.NetSystems.{reaction_system}
pub use Rattle.crn_vec.specs.Network.{IsNetwork, Net}
pub use Rattle.crn_vec.specs.Problems.{Signed, all_zero, children, options_below}
pub use Rattle.crn_vec.specs.Signals.{Shape, complex_row, pair_row, signals}
pub use Rattle.crn_vec.specs.Strong.{IsWeaklyReversible}
pub use Rattle.crn_vec.specs.Visits.{root}
pub use Rattle.crn_vec.specs.declared.limits.TheConstants.{MAX_COMPLEXES, MAX_REACTIONS}
pub use Rattle.crn_vec.specs.declared.signs.Sign.{Sign}
pub use Rattle.crn_vec.specs.declared.signs.Sign.TheVariants.{Minus, Plus, Zero}
pub use Rattle.std.proofs.Common.{Bool, Bor, Err, List, Ok, OnOk, Option, Result, [], ap, append_assoc, ap₂, arith, cond, drop, false, get_or, inl, inr, length, map, of_z, refl, replicate, rules, subst, suc, sym, take, to_z, true, w32, zero, ℕ, ◌%◌, ◌&&◌, ◌++◌, ◌+◌, ◌-◌, ◌/◌, ◌<◌, ◌==◌, ◌^◌, ◌∙◌, ◌∷◌, ◌≡◌, ◌≢◌, ◌≤◌, ◌⊎◌}
pub use Rattle.std.proofs.Math.Seq.{drop-append_seam, get_or-append_seam}
pub use Rattle.std.proofs.lemmas.Bool.{cases_eq, cases_lt, eq-eqb, eqb-true, false≢true, ne_eqb}
pub use Rattle.std.proofs.lemmas.Fmt.{decimal_digit, decimal_nonempty, decimal_step}
pub use Rattle.std.proofs.lemmas.Int.{ints, to_z-of_z}
pub use Rattle.std.proofs.lemmas.List.{append-nil, drop-append-le, drop-drop, drop-map, drop-take, get_or-map, length-append, length-drop, length-map, length-replicate, map-append, take-append-le, take-map}
pub use Rattle.std.proofs.lemmas.List.Elements.{filter-append}
pub use Rattle.std.proofs.lemmas.List.FromFn.{length-map-range_with_len, length-range_with_len}
pub use Rattle.std.proofs.lemmas.Result.{err_from_is_err_and}
pub use Rattle.std.proofs.lemmas.Slice.Eq.{bytes_eq-Decides}
pub use Rattle.std.specs.List.{AllByRecursion, AllZip, flat_map, range_with_len}
pub use Rattle.std.specs.Option.{IsSome, IsSomeAnd}
pub use Rattle.std.specs.Prelude.{None, Some, codes, decimal, filter, if◌then◌else◌, min, nat_abs, negsuc, pos, slice_index, slice_index_or, ℤ}
pub use Rattle.std.specs.Str.{bytes_eq}
