pub mod Robust
pub mod Pick
pub mod Law
pub mod Inner
