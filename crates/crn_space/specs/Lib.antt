pub mod ClassSums
pub mod Dimension
