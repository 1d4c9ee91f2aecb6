pub mod Given
pub mod Order
pub mod Visits
pub mod Inner
