-- For the contracts of private functions alone.
pub mod Tops
pub mod Pairs
