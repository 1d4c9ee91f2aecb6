-- What a crate above may cite of the proofs of this one.

-- Multiples of a vector (-uA, u), and of the multipliers in it.
pub use Rattle.crn_farkas.proofs.Pairs.{dual_scaled, drop-scale}
pub use Rattle.crn_farkas.proofs.Ruling.{scale_step, scaled_small}
-- What a solver says whose basis is the columns.
pub use Rattle.crn_farkas.proofs.Finals.{decision_from}
-- The vectors that a basis names are not 0 at their own coordinate, and the row space is closed under sums and multiples.
pub use Rattle.crn_farkas.proofs.Witnesses.{as_column, column_some}
pub use Rattle.crn_farkas.proofs.Pairs.{own_some, row_scaled}
pub use Rattle.crn_farkas.proofs.PartSums.{take-plus, row_plus}
