-- For the contracts of private functions alone.
pub mod Network
pub mod Parse
pub mod Steps
