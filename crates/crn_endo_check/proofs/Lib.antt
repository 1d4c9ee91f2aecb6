pub mod CallerLemmas
mod SlopeRows
mod SlopeLawful
mod Against
mod Members
mod SlopeCoordinates
mod SlopeEntries
mod AnswersRight
mod CutLaws
mod WeakCoordinates
mod Formed
mod Prelude
