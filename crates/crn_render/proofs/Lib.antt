pub mod CallerLemmas
mod Texts
mod ClassLines
mod Readings
mod Briefs
mod SumEntries
mod FaultNames
mod OneNumbers
mod Exclusions
mod OneLine
mod WorkedRows
mod Lengths
mod FormedShort
mod ShortLines
mod Prelude
