pub mod Words
pub mod Details
pub mod Report
pub mod Faults
pub mod Titles
pub mod Summary
pub mod Inner
pub mod Length
