pub mod Facts
pub mod Check
pub mod Inner
