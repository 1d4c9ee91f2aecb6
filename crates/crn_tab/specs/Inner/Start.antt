-- For the contracts of private functions alone. What a tableau keeps at first, when its basis is the columns.
use Rattle.std.specs.Prelude.{List, [], length, map, neg_ℤ, pos, slice_index, ℕ, ℤ, ◌++◌, ◌<◌, ◌∷◌, ◌≡◌}

-- each of this many numbers is at its own place
pub record IsIdentity (count : ℕ) (at : List ℕ) : Type 0 where
  pub long : length at ≡ count
  pub is : (k : ℕ) → k < count → slice_index at k ≡ k

-- of a row r of the matrix: the entries of -r, and then a 1
abbrev pub start_row : List ℤ → List ℤ
start_row r = map neg_ℤ r ++ pos 1 ∷ []

-- the same of all rows, one after another
abbrev pub start_rows : List (List ℤ) → List ℤ
start_rows [] = []
start_rows (r ∷ rs) = start_row r ++ start_rows rs
