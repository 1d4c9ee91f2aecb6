-- For the contracts of private functions alone.
-- The sign that makes a vector of the confluence space a normal one.
-- Source: this project's own.
-- Shapes: labels count from 1; exits hold one number for each strong class, 0 for a terminal one.
use Rattle.std.specs.Prelude.{◌≡◌, ◌≤ℤ◌, ◌<◌, ◌⊎◌, ℕ, suc, ℤ, pos, neg_ℤ, List, length, map, slice_index}
use Rattle.crn_vec.specs.Vectors.{dot, entry}
use Rattle.crn_vec.specs.Sums.{label_marks}

-- the list itself, or its negative
abbrev pub IsSameOrNegative : List ℤ → List ℤ → Type 0
IsSameOrNegative g h = (h ≡ g) ⊎ (h ≡ map neg_ℤ g)

-- the sum over strong class m, which is counted from 1
abbrev pub class_sum : List ℕ → List ℤ → ℕ → ℤ
class_sum labels g m = dot (label_marks labels m) g

-- the sum over each terminal class before class m is zero; here classes count from 0
abbrev pub AreZeroBefore : List ℕ → List ℕ → List ℤ → ℕ → Type 0
AreZeroBefore labels exits g m = (j : ℕ) → j < m → slice_index exits j ≡ 0
    → class_sum labels g (suc j) ≡ pos 0

-- x is the first sum over a terminal class that is not zero, or there is none
abbrev pub IsFirstSum : List ℕ → List ℕ → List ℤ → ℤ → Type 0
IsFirstSum labels exits g x = (m : ℕ) → m < length exits → slice_index exits m ≡ 0
    → AreZeroBefore labels exits g m
    → (class_sum labels g (suc m) ≡ x) ⊎ (class_sum labels g (suc m) ≡ pos 0)

-- the first sum over a terminal class that is not zero is positive, if there is one
abbrev pub GathersFirst : List ℕ → List ℕ → List ℤ → Type 0
GathersFirst labels exits g = (m : ℕ) → m < length exits → slice_index exits m ≡ 0
    → AreZeroBefore labels exits g m → pos 0 ≤ℤ class_sum labels g (suc m)

-- x is the first entry that is not zero, or there is none
abbrev pub IsFirstEntry : List ℤ → ℤ → Type 0
IsFirstEntry g x = (k : ℕ) → ((j : ℕ) → j < k → entry g j ≡ pos 0)
    → (entry g k ≡ x) ⊎ (entry g k ≡ pos 0)
