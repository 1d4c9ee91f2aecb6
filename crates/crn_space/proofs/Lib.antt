mod Chosen
mod Weights
mod Roots
mod Rooted
mod Parts
mod Few
mod RankBounds
mod Counts
mod ClassSums
mod SpaceFew
mod Kernels
mod SpaceSome
mod Dimension
pub mod CallerLemmas
mod Prelude
