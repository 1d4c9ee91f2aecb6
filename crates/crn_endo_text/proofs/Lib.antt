pub mod CallerLemmas
mod TestsDecided
mod Settled
mod Nodes
mod Answered
mod TreesRead
mod LinesRead
mod VerdictsRead
mod Written
mod ShortDocuments
mod Prelude
