pub mod CallerLemmas
mod BitLaws
mod MarkLaws
mod PastLaws
mod PlaceLaws
mod Walks
mod Prelude
