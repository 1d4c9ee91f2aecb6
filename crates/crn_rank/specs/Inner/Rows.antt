-- For the contracts of private functions alone.
-- The rows of a matrix whose coordinates are in a basis, and what a proof of the rank takes from the
-- vectors that the basis names.
-- Shapes: rows count from 0. The coordinate of row k is the number of columns and k.
use Rattle.std.specs.Prelude.{◌≡◌, ◌+◌, ◌==◌, not, ℕ, suc, zero, ℤ, pos, ◌≤ℤ◌, neg_ℤ, Bool, if◌then◌else◌, List, [], ◌∷◌, ◌++◌, map, take}
use Rattle.std.specs.List.{list_any}
use Rattle.crn_vec.specs.Vectors.{Mat, entry}
use Rattle.crn_vec.specs.Elementary.{IsNamed}
use Rattle.crn_tab.specs.Tableau.{AreSmall}

-- the numbers below `end` that pass a test, ascending
abbrev pub picked : (ℕ → Bool) → ℕ → List ℕ
picked p zero = []
picked p (suc k) = if p k then picked p k ++ k ∷ [] else picked p k

-- the coordinate of row k is in the basis
abbrev pub is_inside : Mat → List ℕ → ℕ → Bool
is_inside a basis k = list_any (λ b. b == (a.cols + k)) basis

-- the coordinate of row k is outside the basis
abbrev pub is_outside : Mat → List ℕ → ℕ → Bool
is_outside a basis k = not (is_inside a basis k)

-- the rows before `end` whose coordinates are in the basis
abbrev pub rows_inside : Mat → List ℕ → ℕ → List ℕ
rows_inside a basis end = picked (is_inside a basis) end

-- the rows before `end` whose coordinates are outside the basis
abbrev pub rows_outside : Mat → List ℕ → ℕ → List ℕ
rows_outside a basis end = picked (is_outside a basis) end

-- the entries at the columns of the vector that the basis names by the coordinate of row k
pub record IsDualOf (a : Mat) (basis : List ℕ) (k : ℕ) (dual : List ℤ) : Type 0 where
  pub v : List ℤ
  pub named : IsNamed a basis (a.cols + k) v
  pub small : AreSmall v
  pub is : dual ≡ take a.cols v

-- the numbers of w: that at its own coordinate, and with the opposite sign those at some rows
abbrev pub comb_numbers : Mat → ℕ → List ℤ → List ℕ → List ℤ
comb_numbers a own w places = entry w own ∷ map (λ q. neg_ℤ (entry w (a.cols + q))) places

-- the numbers of the vector that the basis names by the coordinate of row k, positive there, over the
-- rows before `end` whose coordinates are in the basis
pub record IsCombOf (a : Mat) (basis : List ℕ) (end k : ℕ) (comb : List ℤ) : Type 0 where
  pub w : List ℤ
  pub named : IsNamed a basis (a.cols + k) w
  pub small : AreSmall w
  pub positive : pos 1 ≤ℤ entry w (a.cols + k)
  pub is : comb ≡ comb_numbers a (a.cols + k) w (rows_inside a basis end)
