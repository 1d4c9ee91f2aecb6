-- What a crate above may cite of the proofs of this one.

-- Whether a number is in a list, and at which place.
pub use Rattle.crn_tab.proofs.Places.{isIn_or}
pub use Rattle.crn_tab.proofs.EnteredRank.{found}
-- Numbers and their signs: a factor that is not 0 cancels, and a sign goes over to a multiple.
pub use Rattle.crn_tab.proofs.Columns.{cancel_left}
pub use Rattle.crn_tab.proofs.CutScans.{sign_some}
pub use Rattle.crn_tab.proofs.OwnSign.{sign_carried}
-- The vectors that a basis names: one for each coordinate, up to a factor, in the rows or in the columns.
pub use Rattle.crn_tab.proofs.Signs.{one_row}
pub use Rattle.crn_tab.proofs.Columns.{one_column}
pub use Rattle.crn_tab.proofs.OwnSign.{as_row}
pub use Rattle.crn_tab.proofs.Unique.{column_at}
-- A wide vector that a basis names, also one of an exchange that was refused, shows that the matrix is wide.
pub use Rattle.crn_tab.proofs.Columns.{wide_shown}
pub use Rattle.crn_tab.proofs.ExchangedLists.{exchanged_list}
-- Primitive vectors, and proportional vectors.
pub use Rattle.crn_tab.proofs.Columns.{not_all_zero, proportional_by}
