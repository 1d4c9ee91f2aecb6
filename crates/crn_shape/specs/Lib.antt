pub mod Pairs
pub mod Sides
pub mod Shapes
pub mod Inner
