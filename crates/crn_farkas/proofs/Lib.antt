mod Pairs
mod Seen
mod SignRules
mod ReadSigns
mod Levels
mod Steps
mod Ruling
mod Witnesses
mod PartSums
mod Finals
mod Marks
mod Witnessing
mod WideStops
pub mod CallerLemmas
mod Prelude
