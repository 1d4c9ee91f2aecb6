-- For the contracts of private functions alone.
pub mod Kinds
pub mod Pairs
pub mod Signals
pub mod Spots
pub mod Skips
