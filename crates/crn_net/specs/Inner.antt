-- For the contracts of private functions alone.
pub mod Steps
pub mod Sums
pub mod Rows
pub mod BucketSums
pub mod Marks
