pub mod CallerLemmas
mod TestsDecided
mod Settled
mod Rows
mod Tested
mod Answered
mod LinesRead
mod AnswersRead
mod Written
mod ShortDocuments
mod Prelude
