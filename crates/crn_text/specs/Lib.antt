pub mod Codes
pub mod Tokens
pub mod Sides
pub mod Faults
pub mod SoundLines
pub mod Spells
pub mod Canonical
pub mod Inner
