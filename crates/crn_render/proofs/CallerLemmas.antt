-- What other crates may cite of this crate's proofs.
-- Each refusal of a network text is printed with its own name.
pub use Rattle.crn_render.proofs.FaultNames.{text_codes_have_their_names}
-- Reports, summaries and lines of faults are shorter than a document may be.
pub use Rattle.crn_render.proofs.FormedShort.{reports_are_short}
pub use Rattle.crn_render.proofs.ShortLines.{fault_lines_are_short, summaries_are_short}
-- Two verdicts that are true of one network have one line.
pub use Rattle.crn_render.proofs.OneLine.{true_verdicts_have_one_line}
