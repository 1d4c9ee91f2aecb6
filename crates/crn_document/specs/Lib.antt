pub mod Check
pub mod Facts
pub mod Inner
