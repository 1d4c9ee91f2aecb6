-- What callers need of writing: one text after another, and texts joined by a separator; and of lines that are due.

-- A sink after all of a text, or after a prefix of it.
pub use Rattle.crn_io.proofs.Writes.{WroteAll-none, WroteAll-then, WroteAll-step, WrotePrefix-then, WrotePrefix-more, WrotePrefix-step}
-- What a call that writes a text answers.
pub use Rattle.crn_io.proofs.Writes.{Wrote-all, Wrote-prefix, Wrote-then}
-- Texts that a loop writes one by one, joined by a separator or not at all.
pub use Rattle.crn_io.proofs.Joined.{flat_map_step, flat_map_whole, joined_push, joined_more, joined_step, joined_whole, with_separator_first, with_separator_next, with_separator_parts}
-- A place has one line, or one first test of a line fails there.
pub use Rattle.crn_io.proofs.LineEnds.{line_or_not, breaks_or_not, line_is_there, line_breaks_none, line_is_one, break_is_one}
-- What a call for the next line says of the place of this line.
pub use Rattle.crn_io.proofs.LinesDue.{due_is, end_is, cause_is, cause_is_one}
-- The beginning of a line: of one that is there, and of one that a call asked for.
pub use Rattle.crn_io.proofs.Begun.{begun_none, line_begun, asked_begun, begun_or_more}
-- What follows the beginning of a line, and the tests of lines that fail.
pub use Rattle.crn_io.proofs.Begun.{begun_breaks_last, begun_is_no_line, long_breaks, line_and_more, none_ends}
pub use Rattle.crn_io.proofs.LineLists.{IsLine-append}
-- What no call, and what two calls one after the other, take off a source.
pub use Rattle.crn_io.proofs.Streams.{Consumes-none, Consumes-then}
