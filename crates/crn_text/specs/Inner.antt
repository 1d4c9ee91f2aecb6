-- For the contracts of private functions alone.
pub mod Pieces
pub mod Flaws
pub mod Known
pub mod Said
pub mod Held
pub mod Noughts
pub mod Found
