pub mod CallerLemmas
mod Pairs
mod Known
mod Cases
mod Prelude
