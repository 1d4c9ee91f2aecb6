pub mod Due
pub mod Paths
pub mod Problem
pub mod Gives
pub mod Shared
pub mod Known
pub mod Laws
pub mod Inner
