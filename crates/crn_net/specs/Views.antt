-- The network that tables hold: names, rows of amounts and reactions.
-- Shapes: a row has as many places as the limit on species, and there is one row for each complex.
use Rattle.std.specs.Prelude.{◌≡◌, ◌≤◌, ℕ, ℤ, pos, List, length, map, take, slice_index_or}
use Rattle.std.specs.List.{AllByRecursion}
use Rattle.crn_vec.specs.Network.{Net}
use Rattle.crn_vec.specs.declared.limits.TheConstants.{MAX_SPECIES}

-- the rows without their unused places: the complexes as vectors of this many species
abbrev pub vectors_of : ℕ → List (List ℤ) → List (List ℤ)
vectors_of width rows = map (λ row. take width row) rows

-- the network of these names, rows and reactions
abbrev pub net_of : List (List ℕ) → List (List ℤ) → List (ℕ × ℕ) → Net
net_of names rows reactions = record {
  names = names;
  complexes = vectors_of (length names) rows;
  reactions = reactions;
}

-- a row has as many places as the limit on species, and those from `width` on hold 0
pub record IsRow (width : ℕ) (row : List ℤ) : Type 0 where
  pub long : length row ≡ MAX_SPECIES
  pub rest : (k : ℕ) → width ≤ k → slice_index_or row k (pos 0) ≡ pos 0

-- each of these is such a row
abbrev pub AreRows : ℕ → List (List ℤ) → Type 0
AreRows width rows = AllByRecursion (IsRow width) rows
