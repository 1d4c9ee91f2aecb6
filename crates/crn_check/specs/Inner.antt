-- For the contracts of private functions alone.
pub mod Trees
pub mod Facts
pub mod Tests
pub mod Bases
pub mod Terminals
pub mod Ordered
pub mod Spaces
pub mod Skips
