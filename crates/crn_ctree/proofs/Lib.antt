pub mod CallerLemmas
mod PathLaws
mod NodeLaws
mod KindLaws
mod TreeEnds
mod CutLaws
mod NodeTests
mod PairLaws
mod FirstFails
mod SignalTrees
mod SignalLaws
mod SpotLaws
mod Prelude
