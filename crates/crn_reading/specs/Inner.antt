-- For the contracts of private functions alone.
pub mod Network
pub mod Opening
