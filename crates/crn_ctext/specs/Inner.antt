-- Definitions for the contracts of private functions alone: nobody outside the crate has to read them.
pub mod Forms
pub mod Line
pub mod Rows
pub mod Shapes
pub mod Tries
pub mod Written
pub mod PartTries
