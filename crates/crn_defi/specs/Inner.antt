-- For the contracts of private functions alone.
pub mod ClassRanks
pub mod Terminals
