-- For the contracts of private functions alone.
pub mod TreesRead
