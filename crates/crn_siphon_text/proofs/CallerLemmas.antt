-- What other crates may cite of this crate's proofs.
-- The course of documents on persistence is settled, and its lines are those of answers.
pub use Rattle.crn_siphon_text.proofs.Settled.{course_settled}
pub use Rattle.crn_siphon_text.proofs.Answered.{persist_is_answered}
