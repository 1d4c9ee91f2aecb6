-- What this crate's proofs use of other crates and of its specs.
pub use Rattle.crn_cert.proofs.CallerLemmas.{is_true_tight, true_tight, valid_documents_are_true}
pub use Rattle.crn_cert.specs.Formed.{AreFormed, IsFormedOf}
pub use Rattle.crn_cert.specs.Law.{AllTrueOrOpen, AreBuilt, IsTrueOrOpen}
pub use Rattle.crn_cert.specs.Questions.{Earlier, IsOpen, Q1, Q2, Q5, Question, count_of, number, on, rank_of}
pub use Rattle.crn_cert.specs.Says.{IsTrueOf}
pub use Rattle.crn_cert.specs.Valid.{IsLeft}
pub use Rattle.crn_cert.specs.Verdicts.{tight}
pub use Rattle.crn_cert.specs.declared.answer.Answer.{Answer}
pub use Rattle.crn_cert.specs.declared.answer.Gap.{Gap}
pub use Rattle.crn_cert.specs.declared.answer.Gap.TheVariants.{Budget, Rests as RestsOn, Wide}
pub use Rattle.crn_cert.specs.declared.answer.Proof.{Proof}
pub use Rattle.crn_cert.specs.declared.answer.Verdict.{Verdict}
pub use Rattle.crn_cert.specs.declared.answer.Verdict.TheVariants.{Rank, Unknown}
pub use Rattle.crn_check.proofs.CallerLemmas.{linkage_true, sound_on, strong_true}
pub use Rattle.crn_check.specs.Facts.{AreFactsOf, HoldsNoneFrom, HoldsOn, KeptFacts}
pub use Rattle.crn_ctext.proofs.CallerLemmas.{AllPlain, AreInOrder, AreTreeless, FitFields, HasNoEnd, IsAnswered, IsBounded, IsDecided, IsPlain, IsSmall, OfNetwork, Say, all_of, answers_by, answers_few, answers_learned, are_words, asks_part_settled, back_by, bare_back, bare_row, blocks_no_end, blocks_read, blocks_settled, blocks_written, both_decided, built_few, documents_are_judged, each_below, either_no_end, either_settled, ends_with, first_back, fitting_is_plain, formed_are_plain, formed_by, forms_yes, give_back, give_no_end, give_settled, given, if_decided, in_by_test, int_decided, le_decided, left_decided, line_of_word, line_on, lines_append, lines_two, lt_decided, meaning_decided, meaning_short, moved, nat_decided, networks_are_small, no_end_then, none_said, not_decided, number_back, number_then, one_back, one_decided, one_said, only, own_settled, part_document_short, part_no_end, part_settled, plain_is_line, record_is, sees_first, sees_rank, sees_second, settled_then, short_both, small_numbers, stops_first, stops_later, terminal_decided, test_back, test_no_end, test_on, valid_are_formed, valid_by, written_cuts, written_then, wrote_as}
pub use Rattle.crn_ctext.specs.Answers.{records as answer_records, head_of, records_below, small_record}
unfoldable pub use Rattle.crn_ctext.specs.Answers.{all_records}
pub use Rattle.crn_ctext.specs.Blocks.{AfterBlocks, asks_block, either, word_of}
unfoldable pub use Rattle.crn_ctext.specs.Blocks.{asks_all, asks_blocks}
pub use Rattle.crn_ctext.specs.Course.{Course, Give, test_own, ◌>>=◌}
pub use Rattle.crn_ctext.specs.Courses.{IsSettled, IsWrittenBy}
pub use Rattle.crn_ctext.specs.Documents.{IsOneOf, record_lines}
pub use Rattle.crn_ctext.specs.Kinds.{end_form, record_form, small, small_form}
pub use Rattle.crn_ctext.specs.Meaning.{Known, meaning}
pub use Rattle.crn_ctext.specs.PartBlocks.{HoldsNoSides, verdicts_on}
pub use Rattle.crn_ctext.specs.PartLines.{AreChoices, field_of, forms_in}
pub use Rattle.crn_ctext.specs.Parts.{asks_part, part_course, part_document, part_head}
pub use Rattle.crn_ctext.specs.Questions.{Shapes, first_number}
pub use Rattle.crn_ctext.specs.Records.{Field, Fits, Form, Record, Says, kind_of, record_text}
pub use Rattle.crn_ctext.specs.Steps.{StepGives}
pub use Rattle.crn_ctext.specs.declared.part.Choice.{Choice}
pub use Rattle.crn_ctext.specs.declared.part.Field.{Field as Run}
pub use Rattle.crn_document.specs.Facts.{IsAfterFacts, IsKnownFor, after_facts, with_next}
pub use Rattle.crn_io.proofs.CallerLemmas.{WroteAll-then}
pub use Rattle.crn_io.specs.Device.{SourceSeen}
pub use Rattle.crn_reading.proofs.CallerLemmas.{IsGiven, answer_stops, answer_then, document_answered, document_gives, end_exits, forms_named, head_stop, head_then, last_exits, own_fails, own_holds, place_is, read_to_the_end, step_exits, step_gives, step_map, step_then_ends, step_then_is, stop_after, stop_first, stops_here, words_named}
unfoldable pub use Rattle.crn_reading.proofs.CallerLemmas.{find}
pub use Rattle.crn_reading.specs.Records.{IsPartSaid}
pub use Rattle.crn_reading.specs.Steps.{CanRead, StepIs, StopIs}
pub use Rattle.crn_reading.specs.declared.fault.CheckStop.{CheckStop}
pub use Rattle.crn_reading.specs.declared.fault.CheckStop.TheVariants.{Rejected}
pub use Rattle.crn_reading.specs.declared.reading.Reading.{Reading}
pub use Rattle.crn_robust.proofs.CallerLemmas.{cases_are_one, classes_leave, deficiency_by}
pub use Rattle.crn_robust.specs.Pick.{IsPicked}
pub use Rattle.crn_robust.specs.Robust.{DifferAt, HasNoPair, IsCase, IsLeastPair, IsNoLater, IsRobustPair, SaysLine}
pub use Rattle.crn_robust.specs.declared.robust.Robust.{Robust}
pub use Rattle.crn_robust.specs.declared.robust.Robust.TheVariants.{None, Number, Rests, Yes}
pub use Rattle.crn_robust_text.specs.Document.{AreBlocks, AreInside, IsCaseBy, IsDeficiencyBy, IsFormed, IsOwn, IsReadAs, IsValid, Said, SaysLineBy, ValidAreTrue, ValidLinesAreTrue, WrittenAreDocuments, asks_case, asks_rests, asks_robust, asks_verdict, before, blocks_of, case_forms, case_in, case_records, earlier_of, is_open, line_forms, line_of, meant, part, records, rests_forms, rests_on, said_of, verdict_record, words}
pub use Rattle.crn_robust_text.specs.Inner.LinesRead.{AreSmall, CaseSaid, Decides, HoldsBlocks, IsTrueVerdict, ReadsVerdict, SaysOne}
pub use Rattle.crn_robust_text.specs.declared.verify.Verified.{Verified}
pub use Rattle.crn_space.proofs.CallerLemmas.{one_leaves_line}
pub use Rattle.crn_vec.proofs.CallerLemmas.{deficiency_is_one, eq_or, lt_or, past_end, vector_long, zip_append}
pub use Rattle.crn_vec.specs.Confluence.{HasConfluenceLine}
pub use Rattle.crn_vec.specs.Deficiency.{IsDeficiency}
pub use Rattle.crn_vec.specs.Lists.{IsIn}
pub use Rattle.crn_vec.specs.Network.{IsNetwork, Net}
pub use Rattle.crn_vec.specs.Strong.{IsTerminal}
pub use Rattle.crn_vec.specs.Vectors.{entry}
pub use Rattle.std.proofs.Common.{Bool, Err, List, Ok, Result, Some, [], ap, append_assoc, ap₂, arith, false, get_or, inl, inr, length, map, refl, slice_get, subst, sym, true, ℕ, ◌++◌, ◌+◌, ◌-◌, ◌<◌, ◌^◌, ◌∙◌, ◌∷◌, ◌≡◌, ◌≢◌, ◌≤◌, ◌⊎◌}
pub use Rattle.std.proofs.Math.Bool.{beq}
pub use Rattle.std.proofs.lemmas.Bool.{false≢true}
pub use Rattle.std.proofs.lemmas.Int.{ints}
pub use Rattle.std.proofs.lemmas.List.{append-nil, length-append, map-append}
pub use Rattle.std.proofs.lemmas.Result.{err_from_is_err_and}
pub use Rattle.std.specs.List.{AllByRecursion, list_any}
pub use Rattle.std.specs.Prelude.{IfOk, None as NoRank, Option, codes, not, pos, slice_index_or, unsigned_abs, ℤ, ◌↔◌}
pub use Rattle.std.specs.Str.{bytes_eq}
