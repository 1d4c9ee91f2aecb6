pub mod CallerLemmas
mod Together
mod Searched
mod Alone
mod NodeCounts
mod Answered
mod WeakWords
mod ChainLaws
mod Steps
mod FirstOption
mod Prelude
