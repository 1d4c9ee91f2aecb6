-- What other crates may cite of this crate's proofs.

-- A text has at most one first fault, and a text that spells a network has no fault.
pub use Rattle.crn_text.proofs.Exclusions.{one_fault}
pub use Rattle.crn_text.proofs.Spelled.{no_fault}
-- A text spells at most one network.
pub use Rattle.crn_text.proofs.Unique.{spelling_unique}
-- Each text spells a network or has a first fault.
pub use Rattle.crn_text.proofs.Judged.{judged}
-- The canonical text of a network spells it.
pub use Rattle.crn_text.proofs.CanonicalSpelled.{spells_its_network}
-- The lines of a canonical text: their terms, their lengths, and that none has an LF.
pub use Rattle.crn_text.proofs.CanonicalNames.{held}
pub use Rattle.crn_text.proofs.CanonicalTokens.{side_text, line_text}
pub use Rattle.crn_text.proofs.CanonicalAmounts.{side_held, good_terms, side_length, held_length}
pub use Rattle.crn_text.proofs.CanonicalLines.{no_lf}
-- The digits of a number, and a number that grows with each digit.
pub use Rattle.crn_text.proofs.CanonicalTokens.{digit_is}
pub use Rattle.crn_text.proofs.Numbers.{value_grows}
-- A list that a map joins, split at one member.
pub use Rattle.crn_io.proofs.CallerLemmas.{flat_map_whole}
