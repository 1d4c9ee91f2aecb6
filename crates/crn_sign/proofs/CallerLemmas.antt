-- What other crates may cite of this crate's proofs.

-- What words ask after one coordinate was put.
pub use Rattle.crn_sign.proofs.PlaceLaws.{put_here, put_other}
-- What words ask where nothing is weak.
pub use Rattle.crn_sign.proofs.PlaceLaws.{firm_kinds}
-- What one choice more leaves of the kinds of a table's rows.
pub use Rattle.crn_sign.proofs.PlaceLaws.{row_kept}
