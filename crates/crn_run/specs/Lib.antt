pub mod Run
pub mod Parts
pub mod Words
pub mod Inner
