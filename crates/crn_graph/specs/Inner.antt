pub mod Arcs
pub mod Graph
pub mod Search
pub mod Linkage
pub mod Pair
pub mod Strong
pub mod Ranks
