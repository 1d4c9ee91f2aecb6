mod Spread
mod Filled
mod Stays
mod PartRanks
mod Combs
mod Outside
mod Rows
mod Rooted
mod Judged
mod Finest
pub mod CallerLemmas
mod Greatest
mod Records
mod Prelude
