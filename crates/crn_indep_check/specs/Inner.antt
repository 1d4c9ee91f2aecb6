-- For the contracts of private functions alone.
pub mod Ties
pub mod Shown
