-- What other crates may cite of this crate's proofs.

-- A step of a reading, what follows it, and what stops it.
pub use Rattle.crn_reading.proofs.Steps.{step_gives, step_then_is, step_map, step_says, step_exits, stop_first, stop_after, stops_here, memory_stops}
-- Tests, which take nothing off the source.
pub use Rattle.crn_reading.proofs.Steps.{tests_give, tests_fail}
-- A record that was read is one of those that were due.
pub use Rattle.crn_reading.proofs.Records.{reads_one}
-- Steps up to the end.
pub use Rattle.crn_reading.proofs.Endings.{step_then_ends, end_exits, read_to_the_end}
pub use Rattle.crn_reading.proofs.LastSteps.{last_all, last_exits, last_is, last_then}
-- What reading a whole text by a course answers.
pub use Rattle.crn_reading.proofs.Whole.{text_read, text_answered}
-- The lines of a part, and a whole document of it.
pub use Rattle.crn_reading.proofs.PartLines.{words_named, forms_named, IsGiven, have_places, place_is, placed, own_holds, own_fails}
unfoldable pub use Rattle.crn_reading.proofs.PartLines.{find}
pub use Rattle.crn_reading.proofs.PartDocuments.{head_stop, answer_stops, head_then, answer_then, document_gives, document_answered}
