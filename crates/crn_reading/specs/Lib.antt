pub mod Steps
pub mod Opening
pub mod Records
pub mod Ending
pub mod Reads
pub mod Inner
