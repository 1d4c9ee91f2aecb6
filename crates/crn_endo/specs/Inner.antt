-- For the contracts of private functions alone.
pub mod Decided
pub mod Asked
pub mod Alone
pub mod Chains
