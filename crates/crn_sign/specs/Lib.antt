pub mod Search
pub mod Settled
pub mod Options
pub mod Inner
