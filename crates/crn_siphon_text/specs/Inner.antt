-- For the contracts of private functions alone.
pub mod LinesRead
pub mod NodesRead
pub mod Written
