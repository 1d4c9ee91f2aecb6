-- What other crates may cite of this crate's proofs.
-- The course of documents on endotactic networks is settled, and its lines are those of answers.
pub use Rattle.crn_endo_text.proofs.Settled.{course_settled}
pub use Rattle.crn_endo_text.proofs.Answered.{endo_is_answered}
