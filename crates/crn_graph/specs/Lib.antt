pub mod Arcs
pub mod Forest
pub mod Reverses
pub mod Pair
pub mod Inner
