-- What other crates may cite of this crate's proofs.

-- The course of a document is settled, what it reads is what the answer of a document says, the blocks of formed answers say
-- their verdicts, and those of valid ones are true, but for an open rank.
pub use Rattle.crn_robust_text.proofs.Settled.{course_settled}
pub use Rattle.crn_robust_text.proofs.Answered.{robust_is_answered}
pub use Rattle.crn_robust_text.proofs.TestsTrue.{blocks_learned}
pub use Rattle.crn_robust_text.proofs.WrittenGood.{blocks_true}
