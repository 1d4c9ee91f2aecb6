pub mod Rows
pub mod Columns
pub mod Start
pub mod Scans
