-- What this crate's proofs use of other crates and of its specs.
pub use Rattle.crn_cert.specs.Data.{IsBasisOf}
pub use Rattle.crn_cert.specs.Nodes.{AreNumbersFor, CutsA, CutsB, Fits, Flats, Said, Splits, rest_after}
pub use Rattle.crn_cert.specs.Ranges.{AreFree, IsFrom}
pub use Rattle.crn_cert.specs.Trees.{Both, IsFormedTree, IsValid, Level, Plan, RulesA, RulesB, Three, node_count}
pub use Rattle.crn_ctext.proofs.CallerLemmas.{AllPlain, HasNoEnd, HaveWords, IsAnswered, IsBounded, IsDecided, IsFirst, Say, are_words, asks_part_settled, bare_back, bare_row, bool_decided, both_decided, documents_are_judged, each_below, either_no_end, either_settled, ends_with, first_back, fitting_is_plain, forms_yes, free_bounded, free_fits, free_row, give_back, give_no_end, give_settled, given, in_by_test, int_decided, int_le_decided, line_of_word, line_on, lines_append, lines_two, lt_decided, moved, nat_decided, no_end_then, none_said, not_decided, number_back, number_fits, number_then, one_back, one_number, one_said, only, own_settled, part_document_short, part_no_end, part_settled, plain_bare, plain_is_line, reactions_few, record_is, settled_then, short_both, small_bounded, some_below, species_few, species_row, stops_first, stops_later, test_back, test_no_end, test_on, wide_fields, wide_numbers, wide_numbers_fit, word_then, written_cuts, written_then, wrote_as}
pub use Rattle.crn_ctext.specs.Answers.{nodes, small_record}
pub use Rattle.crn_ctext.specs.Blocks.{either, word_of}
pub use Rattle.crn_ctext.specs.Course.{Course, Give, test_own, ◌>>=◌}
pub use Rattle.crn_ctext.specs.Courses.{IsSettled, IsWrittenBy}
pub use Rattle.crn_ctext.specs.Documents.{IsOneOf, one_word, record_lines}
pub use Rattle.crn_ctext.specs.Kinds.{end_form, free_form, record_form, small, small_form}
pub use Rattle.crn_ctext.specs.PartLines.{AreChoices, field_of, forms_in}
pub use Rattle.crn_ctext.specs.Parts.{asks_part, part_course, part_document, part_head}
pub use Rattle.crn_ctext.specs.Questions.{first_number}
pub use Rattle.crn_ctext.specs.Records.{Field, Fits as FitsForm, Form, Free, Record, Rising, Says, kind_of, line, number_text, numbers_text, record_text}
pub use Rattle.crn_ctext.specs.Steps.{StepGives}
pub use Rattle.crn_ctext.specs.declared.part.Choice.{Choice}
pub use Rattle.crn_ctext.specs.declared.part.Field.{Field as Run}
pub use Rattle.crn_ctree.specs.Due.{first}
pub use Rattle.crn_ctree.specs.Gives.{IsTaken, NodeGives, said_by}
pub use Rattle.crn_ctree.specs.declared.fault.TreeFault.{TreeFault}
pub use Rattle.crn_ctree.specs.declared.fault.TreeFault.TheVariants.{BadLeaf, NodeNotAllowed, TreeEndsEarly, WrongShape}
pub use Rattle.crn_ctree.specs.declared.node.Step.{Step}
pub use Rattle.crn_ctree.specs.declared.node.Step.TheVariants.{Complete, More}
pub use Rattle.crn_endo_check.proofs.CallerLemmas.{CountsTo, MayWeighTo, cut_counts, cut_from, cut_weighs, kinds_long, rows_counted, slope_width}
pub use Rattle.crn_endo_check.specs.Endo.{AreFormedTrees, AreValidTrees, CutsPartA, IsFormedEndo, IsSlopeTree, IsValidEndo, NamesReaction, row_count}
pub use Rattle.crn_endo_check.specs.Endotactic.{HasLowerRise, IsAgainst, height, reaction_at, rise}
pub use Rattle.crn_endo_check.specs.Kept.{KeptCheck, KeptSlopes}
pub use Rattle.crn_endo_check.specs.Slopes.{IsSmallEnough, is_reactant, is_slope_closed, others, reactants, slope_kinds, slope_matrix, slope_size, slopes}
pub use Rattle.crn_endo_check.specs.declared.endo.Endo.{Endo}
pub use Rattle.crn_endo_check.specs.declared.endo.Endo.TheVariants.{Large, Spent, Wide}
pub use Rattle.crn_endo_text.specs.Document.{HasFewNodes, IsOwn, IsSeenOf, WrittenAreDocuments, asks_endo, asks_no, asks_node, asks_rest, asks_yes, if_split, is_small, meant, node_fault, node_forms, other_forms, part, records, said_of, seen_of, slope_forms, spent_form, verdict_forms, wide_form, words, yes_forms}
unfoldable pub use Rattle.crn_endo_text.specs.Document.{asks_tree, asks_trees}
pub use Rattle.crn_endo_text.specs.Inner.TreesRead.{GoesOnBy, Leaves, ReadsSeen, ReadsTrees, ReadsUpTo, Takes, asks_from, number_of, said_at}
unfoldable pub use Rattle.crn_endo_text.specs.Inner.TreesRead.{asks_due}
pub use Rattle.crn_endo_text.specs.declared.seen.EndoSeen.{EndoSeen}
pub use Rattle.crn_endo_text.specs.declared.seen.EndoSeen.TheVariants.{No, Undecided, Yes}
pub use Rattle.crn_io.proofs.CallerLemmas.{Wrote-all, WroteAll-none, WroteAll-step, WroteAll-then}
pub use Rattle.crn_io.specs.Device.{SourceSeen}
pub use Rattle.crn_io.specs.Write.{WroteAll}
pub use Rattle.crn_io.specs.declared.lines.TheConstants.{MAX_DOCUMENT}
pub use Rattle.crn_reading.proofs.CallerLemmas.{IsGiven, answer_stops, answer_then, document_answered, document_gives, end_exits, forms_named, head_stop, head_then, last_exits, own_fails, own_holds, placed, read_to_the_end, step_exits, step_gives, step_then_ends, step_then_is, stop_after, stop_first, stops_here, words_named}
unfoldable pub use Rattle.crn_reading.proofs.CallerLemmas.{find}
pub use Rattle.crn_reading.specs.Records.{IsPartSaid}
pub use Rattle.crn_reading.specs.Steps.{CanRead, GoesOn, StepIs, StopIs}
pub use Rattle.crn_reading.specs.declared.fault.CheckStop.{CheckStop}
pub use Rattle.crn_reading.specs.declared.fault.CheckStop.TheVariants.{Rejected}
pub use Rattle.crn_reading.specs.declared.reading.Reading.{Reading}
pub use Rattle.crn_vec.proofs.CallerLemmas.{cut_long, filter_few, zip_append}
pub use Rattle.crn_vec.specs.Elementary.{width}
pub use Rattle.crn_vec.specs.Lists.{IsIn}
pub use Rattle.crn_vec.specs.Network.{IsNetwork, Net}
pub use Rattle.crn_vec.specs.Problems.{Signed, all_zero, children, options_below}
pub use Rattle.crn_vec.specs.Systems.{IsCut, MayWeigh, is_signed, kind_at}
pub use Rattle.crn_vec.specs.Vectors.{entry}
pub use Rattle.crn_vec.specs.Visits.{root}
pub use Rattle.crn_vec.specs.declared.limits.TheConstants.{MAX_BUDGET, MAX_COMPLEXES, MAX_COORDINATES}
pub use Rattle.crn_vec.specs.declared.signs.Kind.{Kind}
pub use Rattle.crn_vec.specs.declared.signs.Kind.TheVariants.{Neg, NonNeg, Pos}
pub use Rattle.crn_vec.specs.declared.signs.Sign.{Sign}
pub use Rattle.crn_vec.specs.declared.signs.Sign.TheVariants.{Minus, Plus, Zero}
pub use Rattle.std.proofs.Common.{Bool, Err, List, Ok, Result, [], ap, append_assoc, ap₂, arith, drop, false, get_or, if◌then◌else◌, inl, inr, length, map, refl, subst, suc, sym, take, take_all, true, zero, ℕ, ◌++◌, ◌+◌, ◌-◌, ◌<◌, ◌∙◌, ◌∷◌, ◌≡◌, ◌≢◌, ◌≤◌, ◌⊎◌}
pub use Rattle.std.proofs.lemmas.Bool.{eq-eqb, eqb-true, false≢true}
pub use Rattle.std.proofs.lemmas.Int.{ints}
pub use Rattle.std.proofs.lemmas.List.{append-nil, length-append, map-append, take-append-drop, take_more}
pub use Rattle.std.proofs.lemmas.List.Concat.{flat_map-append}
pub use Rattle.std.proofs.lemmas.List.FromFn.{length-range_with_len}
pub use Rattle.std.proofs.lemmas.List.Sums.{sum_by-cons}
pub use Rattle.std.proofs.lemmas.Result.{err_from_is_err_and}
pub use Rattle.std.specs.List.{flat_map, range_with_len}
pub use Rattle.std.specs.Prelude.{codes, nat_abs, negsuc, pos, slice_index_or, sum, ℤ, ◌+ℤ◌, ◌<ℤ◌, ◌≤ℤ◌}
pub use Rattle.std.specs.Str.{bytes_eq}
