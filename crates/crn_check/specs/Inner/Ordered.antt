-- For the contracts of private functions alone.
-- The tests of rows of numbers, one for each member of a list: the sides of pairs, and the ties of
-- complexes.
-- Shapes: complexes count from 0, labels and classes from 1.
use Rattle.std.specs.Prelude.{◌≡◌, ◌≢◌, ◌<◌, ◌⊎◌, ◌==◌, not, Bool, true, ℕ, suc, ℤ, pos, List, [], ◌∷◌, length, filter, slice_index, Option, Some, None}
use Rattle.std.specs.List.{range_with_len}
use Rattle.crn_vec.specs.Network.{Net}
use Rattle.crn_vec.specs.Vectors.{entry}
use Rattle.crn_vec.specs.Strong.{ReactsTo}
use Rattle.crn_vec.specs.CutPairs.{IsBetween}
use Rattle.crn_cert.specs.Tests.{Test, test}
use Rattle.crn_cert.specs.Faults.{BadVector}

-- the tests of the rows of these members; the first of them is record `part`, and a missing row
-- fails
abbrev pub ordered_tests : (ℕ → List ℤ → Type 0) → ℕ → List ℕ → List (List ℤ) → List Test
ordered_tests Holds part (r ∷ rs) (row ∷ rows) = test part BadVector (Holds r row)
    ∷ ordered_tests Holds (suc part) rs rows
ordered_tests Holds part (r ∷ rs) [] = test part BadVector ⊥ ∷ []
ordered_tests Holds part [] rows = []

-- ---- sides

-- the marks are 0 at each complex of another class
abbrev pub AreZeroOutside : List ℕ → ℕ → List ℤ → Type 0
AreZeroOutside labels class marks = (c : ℕ) → c < length labels → slice_index labels c ≢ class
    → entry marks c ≡ pos 0

-- each reaction joins complexes of equal marks, but for those between y and z
abbrev pub AreEqualBut : Net → ℕ → ℕ → List ℤ → Type 0
AreEqualBut net y z marks = (a b : ℕ) → ReactsTo net.reactions a b
    → IsBetween y z a b ⊎ (entry marks a ≡ entry marks b)

-- ---- ties

-- the complex is the one that is spared, if one is
abbrev pub IsSpared : Option ℕ → ℕ → Type 0
IsSpared None = λ d. ⊥
IsSpared (Some p) = λ d. d ≡ p

-- the complex is not spared
abbrev pub is_tied : Option ℕ → ℕ → Bool
is_tied None = λ d. true
is_tied (Some p) = λ d. not (d == p)

-- the complexes that are not spared
abbrev pub tied : Net → Option ℕ → List ℕ
tied net spared = filter (is_tied spared) (range_with_len 0 (length net.complexes))
