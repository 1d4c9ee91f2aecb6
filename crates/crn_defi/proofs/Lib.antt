mod Places
mod Counted
mod ClassRanks
mod DeficiencyAnswers
mod ZeroAnswers
mod TerminalCounts
mod OneTerminal
mod OneAnswers
mod Splits
mod Callers
mod TestFacts
pub mod CallerLemmas
mod Prelude
