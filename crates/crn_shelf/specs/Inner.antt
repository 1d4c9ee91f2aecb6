-- For the contracts of private functions alone.
pub mod Shapes
pub mod Choices
pub mod Answers
