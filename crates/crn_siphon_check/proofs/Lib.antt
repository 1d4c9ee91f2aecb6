pub mod CallerLemmas
mod SiphonLaws
mod VisitLaws
mod AnswerLaws
mod Prelude
