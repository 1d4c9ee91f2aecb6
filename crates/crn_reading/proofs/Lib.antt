pub mod CallerLemmas
mod Steps
mod FoundLines
mod Titles
mod CanonicalTexts
mod LongLines
mod NetworkLines
mod Records
mod Texts
mod Endings
mod LastSteps
mod Whole
mod PartLines
mod PartDocuments
mod Prelude
