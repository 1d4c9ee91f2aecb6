-- For the contracts of private functions alone.
pub mod Answered
pub mod ClassData
pub mod Given
pub mod Sides
pub mod Solved
