-- What other crates may cite of this crate's proofs.

-- Of a settled course a text gives one thing or has one first fault, never both.
pub use Rattle.crn_ctext.proofs.Courses.{each_is_judged, gives_or_fails, gives_one, first_is_one}
-- What one course after another gives, and where it fails first.
pub use Rattle.crn_ctext.proofs.Courses.{gives_then, fails_before, fails_then}
-- What awaits a line, in the parts of a course.
pub use Rattle.crn_ctext.proofs.Awaited.{awaits_before, awaits_then, awaits_parts}
-- Bytes of a document that await a line leave the fault open.
pub use Rattle.crn_ctext.proofs.LeftOpen.{awaited_open}
-- The course of documents is settled, and the good documents are those that it gives something for.
pub use Rattle.crn_ctext.proofs.DocumentsGood.{settled, read_documents_are_good, good_documents_are_read}
-- A call for the next line is a step of the course at which a line is due.
pub use Rattle.crn_ctext.proofs.DueSteps.{line_is_due, IsNoLine, line_is_missing, line_is_awaited}
-- A line of a split begins with a known word.
pub use Rattle.crn_ctext.proofs.TreesWritten.{split_known}
-- A place counts the same bytes before and after what a course reads.
pub use Rattle.crn_ctext.proofs.StepsThen.{gives_counts}
-- Steps of a reader one after another.
pub use Rattle.crn_ctext.proofs.StepsThen.{step_then, step_fails_then, step_fails_before, step_awaits_then, step_awaits_before, step_ends_then}
-- What is read of a document is its network and its answers, and what these say is true or open.
pub use Rattle.crn_ctext.proofs.DocumentsGood.{read_is_of}
pub use Rattle.crn_ctext.proofs.GoodLaws.{good_one, read_true, written_good, shared_good, shares_fit}
-- Records of formed and of valid answers, and answers of formed records.
pub use Rattle.crn_ctext.proofs.AnswersLinked.{answers_formed, answers_valid, records_valid}
pub use Rattle.crn_ctext.proofs.RecordsLinked.{records_answered}
pub use Rattle.crn_ctext.proofs.TrueRecords.{records_true}
-- If two documents are equal, so are their networks, answers and shares, and they are of one version.
pub use Rattle.crn_ctext.proofs.DocumentsOne.{document_one, second_document_one, versions_apart}
-- The text of a record with short numbers says it, and a line that says it is its text.
pub use Rattle.crn_ctext.proofs.Texts.{AreShort, text_says, says_text}
-- The records of formed answers are plain: few short words and numbers.
pub use Rattle.crn_ctext.proofs.ShortAnswers.{AllPlain, formed_are_plain, plain_are_short}
-- Documents of formed answers whose trees have few nodes are shorter than the bound.
pub use Rattle.crn_ctext.proofs.FewNodes.{document_short, document2_short}
-- The trees of two sign problems whose leaves have tests that hold together give the same and fail first in the same place, and so do steps by their courses.
pub use Rattle.crn_ctext.proofs.TreesAlike.{IsLike, HoldTogether, like_itself, like_then, trees_like, step_gives_like, step_fails_like, step_awaits_like}
-- What records of given forms are, and what a course gives in two parts.
pub use Rattle.crn_ctext.proofs.AnswersApart.{zip_long}
-- The forms of heads, as they come.
pub use Rattle.crn_ctext.proofs.Forms.{numbers_of, head_record, head, yes, no, no_by, none_by, open_by, wide, wide_signal, rests, spent, last_forms, spent_place, rests_place, given_back, all_same}
pub use Rattle.crn_ctext.proofs.BlocksSaid.{turn_is}
pub use Rattle.crn_ctext.proofs.RanksLinked.{record_is}
pub use Rattle.crn_ctext.proofs.TreesAlike.{gives_parts, fails_parts}
-- A record that fits a form of a question's heads is that of a head of the table.
pub use Rattle.crn_ctext.proofs.RecordsTyped.{head_typed}
-- Records that fit the forms of a question, and after which no tree is due, are those of a formed answer.
pub use Rattle.crn_ctext.proofs.RecordsFormed.{records_formed}
-- ---- for the parts

-- Decided statements.
pub use Rattle.crn_ctext.proofs.Decided.{IsDecided, both_decided, one_decided, not_decided, if_decided, moved, nat_decided, le_decided, bool_decided, int_decided, int_le_decided, all_decided, in_decided}
pub use Rattle.crn_ctext.proofs.TestsDecided.{each_below, some_below, numbered_decided, tree_decided}
pub use Rattle.crn_ctext.proofs.RanksDecided.{law_decided, no_law_decided, rank_decided, some_number}
-- Settled courses.
pub use Rattle.crn_ctext.proofs.LinesRead.{HaveWords}
pub use Rattle.crn_ctext.proofs.FormWords.{words_yes, forms_yes, are_words}
pub use Rattle.crn_ctext.proofs.Courses.{settled_then, fails_with_a_code}
pub use Rattle.crn_ctext.proofs.Settled.{AllDecided, test_settled, own_settled, give_settled, either_settled}
pub use Rattle.crn_ctext.proofs.PartsSettled.{asks_part_settled, part_settled}
-- Lines that are written and read.
pub use Rattle.crn_ctext.proofs.Image.{HasNoEnd, written_then, written_cuts, no_end_then, give_no_end, part_record_is_written, written_is_part_record, part_no_end, test_no_end}
pub use Rattle.crn_ctext.proofs.TreesRead.{give_back}
pub use Rattle.crn_ctext.proofs.Shared.{in_by_test}
pub use Rattle.crn_ctext.proofs.ShortLines.{plain_is_line}
pub use Rattle.crn_ctext.proofs.ShortAnswers.{short_both}
-- Numbers of records.
pub use Rattle.crn_ctext.proofs.Bounded.{IsPlain, IsBounded, words_fit, fitting_is_plain, slim_are_short}
pub use Rattle.crn_ctext.proofs.RanksLinked.{free_fits, free_row}
pub use Rattle.crn_ctext.proofs.PartNumbers.{FitFields, number_then, rising_fits, small_numbers, one_number, number_fits, number_back}
pub use Rattle.crn_ctext.proofs.FieldsTyped.{rising}
-- Records of a part's forms, and the lines of an answer.
pub use Rattle.crn_ctext.proofs.PartRecords.{only, bare_back, one_back, bits_back, bits_fit, small_numbers_fit, wide_fields, wide_numbers, wide_numbers_fit, species_few, reactions_few, free_bounded, species_row, reactions_row, small_bounded, rising_bounded, bare_row, plain_bare}
pub use Rattle.crn_ctext.proofs.PartAnswers.{IsFirst, first_back, Say, one_said, none_said, line_on, given, test_back, test_on, either_no_end}
-- Blocks of version 1 without trees, within the lines of a part.
pub use Rattle.crn_ctext.proofs.PartBlocks.{AreTreeless, blocks_read, blocks_written, answers_learned, answers_few}
pub use Rattle.crn_ctext.proofs.BlocksWritten.{all_of, blocks_no_end}
pub use Rattle.crn_ctext.proofs.Settled.{blocks_settled}
pub use Rattle.crn_ctext.proofs.MeaningDecided.{OfNetwork, meaning_decided}
pub use Rattle.crn_ctext.proofs.ShortAnswers.{valid_are_formed}
pub use Rattle.crn_ctext.proofs.MeaningShort.{IsSmall, networks_are_small, meaning_short, built_few}
pub use Rattle.crn_ctext.proofs.RanksDecided.{left_decided}
pub use Rattle.crn_ctext.proofs.ReachDecided.{terminal_decided}
pub use Rattle.crn_ctext.proofs.Decided.{lt_decided}
-- Records of formed and of valid answers to some questions, and the answers of such records.
pub use Rattle.crn_ctext.proofs.RecordsTold.{AreInOrder}
pub use Rattle.crn_ctext.proofs.AnswersLinked.{formed_by, valid_by, back_by}
pub use Rattle.crn_ctext.proofs.RecordsLinked.{answers_by}
pub use Rattle.crn_ctext.proofs.WrittenAnswers.{sees_first, sees_second, sees_rank, alone_records}
-- Documents of a part.
pub use Rattle.crn_ctext.proofs.PartsRead.{IsAnswered, after_lines, after_opening, read_is_document, document_is_read, documents_are_judged, part_document_short}
-- Lines that are written one after another.
pub use Rattle.crn_ctext.proofs.Pieces.{stops_first, stops_later, ends_with, wrote_as}
pub use Rattle.crn_ctext.proofs.WrittenLines.{line_of_word, word_then, lines_append, lines_two, lines_three}
