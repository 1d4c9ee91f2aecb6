-- For the contracts of private functions alone.
pub mod Normal
pub mod Pairs
pub mod Spaces
pub mod Verdicts
