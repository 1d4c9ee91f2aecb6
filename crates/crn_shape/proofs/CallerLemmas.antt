-- What other crates may cite of this crate's proofs.

-- There is a kind for each coordinate of part A.
pub use Rattle.crn_shape.proofs.ShapeKinds.{shelf_kinds_long}
-- Sides that pass the tests of question 11 are those that a shape is made from.
pub use Rattle.crn_shape.proofs.SidesTested.{tested_sides}
-- Products of vectors with narrow entries.
pub use Rattle.crn_shape.proofs.PairSides.{narrow_within, dot_within}
-- One reaction more joins a pair, or none that is new.
pub use Rattle.crn_shape.proofs.Least.{pairs_yes, pairs_no}
