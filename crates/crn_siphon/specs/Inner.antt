-- For the contracts of private functions alone.
pub mod Sets
pub mod Places
pub mod Changes
pub mod Systems
pub mod Known
pub mod Nodes
pub mod Search
pub mod Ends
