-- Vectors that the trees of a document share.
-- Source: this project's own.
-- Shapes: places count from 1.
use Rattle.std.specs.Prelude.{◌≤◌, ◌-◌, ℕ, ℤ, List, [], length, slice_index_or}
use Rattle.std.specs.List.{AllByRecursion}
use Rattle.crn_vec.specs.declared.limits.TheConstants.{MAX_COORDINATES}
use Rattle.crn_cert.specs.Ranges.{IsNarrow}
use Rattle.crn_cert.specs.Nodes.{Said, CutsA, CutsB}
use Rattle.crn_ctree.specs.declared.shared.SharedCut.{SharedCut}
use Rattle.crn_ctree.specs.declared.shared.SharedCut.TheVariants.{A, B}

-- a vector that may be shared: numbers of a certificate, at least one, and at most as many as a
-- system has coordinates
pub record IsShared (numbers : List ℤ) : Type 0 where
  pub some : 1 ≤ length numbers
  pub few : length numbers ≤ MAX_COORDINATES
  pub narrow : AllByRecursion IsNarrow numbers

-- the place of the vector that the cut names
abbrev pub place_of : SharedCut → ℕ
place_of (A place) = place
place_of (B place) = place

-- the cut names a vector of the table
abbrev pub IsPlaceIn : List (List ℤ) → SharedCut → Type 0
IsPlaceIn table cut = (1 ≤ place_of cut) × (place_of cut ≤ length table)

-- the cut of the same part with these multipliers
abbrev pub said_with : SharedCut → List ℤ → Said
said_with (A place) u = CutsA u
said_with (B place) u = CutsB u

-- the cut that the line stands for
abbrev pub said_by_shared : List (List ℤ) → SharedCut → Said
said_by_shared table cut = said_with cut (slice_index_or table (place_of cut - 1) [])
