-- For the contracts of private functions alone.
pub mod Reading
pub mod Members
