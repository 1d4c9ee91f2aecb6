-- Definitions for the contracts of private functions alone: nobody outside the crate has to read them.
pub mod Numbered
