pub mod Rank
pub mod Inner
