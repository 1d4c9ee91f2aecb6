pub mod CallerLemmas
mod PickedRows
mod MemberRows
mod DualTests
mod CombTests
mod Proven
mod WideNames
mod Prelude
