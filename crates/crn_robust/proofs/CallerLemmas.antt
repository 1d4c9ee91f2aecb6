-- What other crates may cite of this crate's proofs.

-- The deficiency by the number of linkage classes and the rank that true verdicts say, for which these leave room.
pub use Rattle.crn_robust.proofs.Known.{classes_leave, deficiency_by}
-- One case holds of a network, and its numbers are small.
pub use Rattle.crn_robust.proofs.Cases.{cases_are_one}
pub use Rattle.crn_robust.proofs.Pairs.{pair_small}
