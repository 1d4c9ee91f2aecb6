-- What other crates may cite of this crate's proofs.

-- The name of the wide vector of a column of the basis.
pub use Rattle.crn_rank.proofs.WideNames.{wide_column}
