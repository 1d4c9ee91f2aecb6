-- For the contracts of private functions alone.
pub mod Records
pub mod Answer
pub mod Parts
pub mod Answers
pub mod Heads
pub mod Signals
pub mod Blocks
pub mod Courses
pub mod Plain
pub mod Table
pub mod Ending
pub mod Trees
pub mod Met
pub mod Lists
