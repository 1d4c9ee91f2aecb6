pub mod Finest
pub mod Shown
pub mod Law
pub mod Parts
pub mod Inner
