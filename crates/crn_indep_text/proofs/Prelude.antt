-- What this crate's proofs use of other crates and of its specs.
pub use Rattle.crn_cert.specs.ClassTests.{AreNumbered, IsTree}
pub use Rattle.crn_cert.specs.Faults.{fault_number}
pub use Rattle.crn_cert.specs.Parts.{IsRankProof}
pub use Rattle.crn_cert.specs.Ranges.{AreFree, AreFreeRows, AreFrom}
pub use Rattle.crn_cert.specs.Tests.{AllHold, FailsFirst as FailsTest, Test}
pub use Rattle.crn_cert.specs.declared.answer.RankProof.{RankProof}
pub use Rattle.crn_ctext.proofs.CallerLemmas.{AllDecided, AllPlain, HasNoEnd, HaveWords, IsAnswered, IsBounded, IsDecided, IsFirst, IsPlain, Say, all_decided, are_words, asks_part_settled, both_decided, documents_are_judged, each_below, either_no_end, either_settled, ends_with, first_back, fitting_is_plain, forms_yes, free_bounded, free_fits, free_row, give_back, give_no_end, give_settled, given, if_decided, in_by_test, in_decided, int_decided, line_of_word, line_on, lines_append, lines_three, moved, nat_decided, no_end_then, none_said, not_decided, number_fits, numbered_decided, one_back, one_decided, one_said, only, own_settled, part_document_short, part_no_end, part_settled, plain_is_line, rank_decided, reactions_few, record_is, rising, rising_bounded, rising_fits, settled_then, short_both, small_bounded, small_numbers, small_numbers_fit, some_below, some_number, species_few, stops_first, stops_later, test_no_end, tree_decided, wide_fields, wide_numbers, wide_numbers_fit, word_then, words_fit, written_cuts, written_then, wrote_as}
pub use Rattle.crn_ctext.specs.Answers.{rank_records, small_record}
pub use Rattle.crn_ctext.specs.Blocks.{either, word_of}
pub use Rattle.crn_ctext.specs.Course.{Course, Give, test_own, ◌>>=◌}
unfoldable pub use Rattle.crn_ctext.specs.Course.{FailsFirst, Gives}
pub use Rattle.crn_ctext.specs.Courses.{IsSettled}
unfoldable pub use Rattle.crn_ctext.specs.Courses.{IsWrittenBy}
pub use Rattle.crn_ctext.specs.Documents.{IsOneOf, one_word, record_lines}
pub use Rattle.crn_ctext.specs.Kinds.{end_form, free_form, record_form, small, small_form}
pub use Rattle.crn_ctext.specs.PartLines.{AreChoices, field_of, forms_in}
pub use Rattle.crn_ctext.specs.Parts.{asks_part, part_course, part_document, part_head}
pub use Rattle.crn_ctext.specs.Questions.{first_number}
pub use Rattle.crn_ctext.specs.Records.{Field, Fits, Form, Free, Record, Rising, Says, line, most_of, number_text, numbers_text, record_text}
pub use Rattle.crn_ctext.specs.Steps.{StepGives}
pub use Rattle.crn_ctext.specs.declared.part.Choice.{Choice}
pub use Rattle.crn_ctext.specs.declared.part.Field.{Field as Run}
pub use Rattle.crn_indep_check.proofs.CallerLemmas.{even_counts, record_within}
pub use Rattle.crn_indep_check.specs.Finest.{all_reactions, label_of}
pub use Rattle.crn_indep_check.specs.Parts.{AreValidParts, IsFormedParts}
pub use Rattle.crn_indep_check.specs.Shown.{AreEvenLabels, AreLinked, AreTied, DrawsOn, FailsLink, FailsShown, HangsByTie, IsProofForm, IsShown, IsShownForm, comb_for, combined, greatest, label_record, part_code, part_ranks, proof_tests, reactions}
pub use Rattle.crn_indep_check.specs.declared.parts.Parts.{Parts}
pub use Rattle.crn_indep_check.specs.declared.parts.Parts.TheVariants.{Split, Wide}
pub use Rattle.crn_indep_text.specs.Document.{IsOwn, IsSeenOf, Seen, WrittenAreDocuments, asks_decomposition, asks_links, asks_proof, asks_rest, asks_shown, asks_split, base_forms, comb_forms, depth_forms, dual_forms, first_forms, label_forms, link_records, meant, naturals, open_seen, part, proof_of, records, seen_of, split_seen, up_forms, words}
unfoldable pub use Rattle.crn_indep_text.specs.Document.{asks_rows, own_tests}
pub use Rattle.crn_indep_text.specs.Inner.LinesRead.{AreOfRow, AreSmall, IsRowSaid, JudgesLines, ReadsNums, ReadsProof, ReadsRow, ReadsRows, ReadsSeen, run_forms}
pub use Rattle.crn_indep_text.specs.declared.seen.PartsSeen.{PartsSeen}
pub use Rattle.crn_io.proofs.CallerLemmas.{WroteAll-then}
pub use Rattle.crn_io.specs.Device.{SourceSeen}
pub use Rattle.crn_io.specs.Lines.{Place}
pub use Rattle.crn_io.specs.declared.lines.TheConstants.{MAX_NUMBERS}
pub use Rattle.crn_reading.proofs.CallerLemmas.{IsGiven, answer_stops, answer_then, document_answered, document_gives, end_exits, forms_named, head_stop, head_then, last_exits, memory_stops, placed, read_to_the_end, step_exits, step_gives, step_map, step_then_ends, step_then_is, stop_first, stops_here, tests_fail, tests_give, words_named}
unfoldable pub use Rattle.crn_reading.proofs.CallerLemmas.{find}
pub use Rattle.crn_reading.specs.Records.{IsPartSaid}
pub use Rattle.crn_reading.specs.Steps.{CanRead, StepIs, StopIs}
pub use Rattle.crn_reading.specs.declared.fault.CheckStop.{CheckStop}
pub use Rattle.crn_reading.specs.declared.fault.CheckStop.TheVariants.{NoMemory, Rejected}
pub use Rattle.crn_reading.specs.declared.reading.Reading.{Reading}
pub use Rattle.crn_vec.proofs.CallerLemmas.{abs_back, all_from, all_in, in_range, range_bounds, zip_append}
pub use Rattle.crn_vec.specs.Kept.{KeptNums}
pub use Rattle.crn_vec.specs.Lists.{IsAscending, IsIn}
pub use Rattle.crn_vec.specs.Network.{IsNetwork, Net}
pub use Rattle.crn_vec.specs.Vectors.{entry}
pub use Rattle.std.proofs.Common.{Bool, Err, List, Ok, Result, [], ap, append_assoc, ap₂, arith, inl, inr, length, map, refl, subst, suc, sym, take, true, zero, ℕ, ◌++◌, ◌+◌, ◌-◌, ◌<◌, ◌==◌, ◌^◌, ◌∙◌, ◌∷◌, ◌≡◌, ◌≢◌, ◌≤◌, ◌⊎◌}
pub use Rattle.std.proofs.Math.Numerals.{add-one}
pub use Rattle.std.proofs.lemmas.List.{append-nil, length-append, length-map, map-append}
pub use Rattle.std.proofs.lemmas.List.Concat.{flat_map-append}
pub use Rattle.std.proofs.lemmas.List.FromFn.{length-range_with_len}
pub use Rattle.std.proofs.lemmas.Result.{err_from_is_err_and}
pub use Rattle.std.specs.List.{AllByRecursion}
pub use Rattle.std.specs.Prelude.{codes, false, if◌then◌else◌, min, nat_abs, pos, slice_index, slice_index_or, ℤ}
pub use Rattle.std.specs.Str.{bytes_eq}
