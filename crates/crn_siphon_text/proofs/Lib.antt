pub mod CallerLemmas
mod TestsDecided
mod Settled
mod Nodes
mod Answered
mod LinesRead
mod NodesRead
mod TreesRead
mod VerdictsRead
mod Written
mod ShortDocuments
mod Prelude
