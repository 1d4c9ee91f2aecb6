-- What other crates may cite of this crate's proofs.

-- A decomposition that is shown to be the finest is the finest, and formed and valid answers are true.
pub use Rattle.crn_indep_check.proofs.Finest.{shown_are_finest, valid_are_true}
-- The greatest label is how many labels there are.
pub use Rattle.crn_indep_check.proofs.Greatest.{greatest_is, even_counts}
-- Bounds of reactions that draw on others, and of those on which they draw.
pub use Rattle.crn_indep_check.proofs.Outside.{drawn_member, drawer_bounds, member_bounds}
-- The record of a test that fails is one of the document's.
pub use Rattle.crn_indep_check.proofs.Records.{record_within}
