-- What other crates may cite of this crate's proofs.
pub mod CallerLemmas
mod TopNumbers
mod PairSides
mod ShapeMade
mod ShapeKinds
mod Opposites
mod ShapeWidths
mod SidesTested
mod Least
mod Prelude
