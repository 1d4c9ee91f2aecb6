-- For the contracts of private functions alone.
pub mod Answers
pub mod Rows
pub mod Columns
