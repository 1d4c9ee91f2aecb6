pub mod Terms
pub mod Grows
pub mod Views
pub mod Inner
