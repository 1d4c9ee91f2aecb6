pub mod CallerLemmas
mod TestsDecided
mod TestsTrue
mod Settled
mod Answered
mod WrittenGood
mod Written
mod LinesRead
mod VerdictsRead
mod BlocksRead
mod DocumentsRead
mod Prelude
