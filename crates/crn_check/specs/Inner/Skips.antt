-- For the contracts of private functions alone.
-- The places at which the vectors of a base are not zero.
use Rattle.std.specs.Prelude.{◌<◌, ℕ, List, [], length, slice_index, slice_index_or}
use Rattle.crn_vec.specs.Network.{Net}
use Rattle.crn_vec.specs.Skips.{AreSkips}
use Rattle.crn_cert.specs.RankTests.{vector_of}

-- such places for the vectors of the first members of a base
abbrev pub AreSkipsOf : Net → List ℕ → List (List ℕ) → Type 0
AreSkipsOf net base skips = (j : ℕ) → j < length base → j < length skips
    → AreSkips (vector_of net (slice_index base j)) (slice_index_or skips j [])
