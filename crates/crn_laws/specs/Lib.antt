pub mod Implied
pub mod Renumbered
pub mod Systems
