pub mod CallerLemmas
mod LastSigns
mod SettledLaws
mod SumLaws
mod Starts
mod Ended
mod Prelude
