-- What contracts see of a source and of a sink, and their counts of faults.
-- A count of faults is a number below 2^64 that never falls and stays at the greatest such number.
use Rattle.std.specs.Prelude.{◌≤◌, ◌+◌, ◌-◌, ◌^◌, ℕ, List, Option, min}

-- what contracts see of a source
pub record SourceSeen : Type 0 where
  -- the bytes that are left, if the source shows them
  pub left : Option (List ℕ)
  -- how often it failed
  pub faults : ℕ

-- what contracts see of a sink
pub record SinkSeen : Type 0 where
  -- the bytes that it took, if the sink shows them
  pub took : Option (List ℕ)
  -- how many more bytes it takes without a fault, if the sink shows that
  pub room : Option ℕ
  -- how often it failed
  pub faults : ℕ

-- the count grew, or is at its greatest
abbrev pub Rose : ℕ → ℕ → Type 0
Rose before now = min (before + 1) (2 ^ 64 - 1) ≤ now
