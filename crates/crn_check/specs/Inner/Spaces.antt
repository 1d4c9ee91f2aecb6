-- For the contracts of private functions alone.
-- The tests of confluence vectors, over plain lists.
-- Shapes: complexes and species count from 0, labels and classes from 1; the complexes that a plane
-- names count from 1.
use Rattle.std.specs.Prelude.{◌≡◌, ◌≢◌, ◌≤◌, ◌-◌, ℕ, ℤ, pos, List, unsigned_abs}
use Rattle.std.specs.Int.{◌∣◌}
use Rattle.crn_vec.specs.Network.{Net}
use Rattle.crn_vec.specs.Vectors.{entry, dot}
use Rattle.crn_vec.specs.Rank.{combination_at}
use Rattle.crn_vec.specs.Sums.{label_marks}
use Rattle.crn_cert.specs.ConfluenceTests.{IsInSpace}

-- the combination of the complexes with the entries of g is zero
abbrev pub IsBalanced : Net → List ℤ → Type 0
IsBalanced net g = (s : ℕ) → combination_at g net.complexes s ≡ pos 0

-- g sums to zero over each of this many classes
abbrev pub AreSumsZero : List ℕ → ℕ → List ℤ → Type 0
AreSumsZero labels count g = (k : ℕ) → 1 ≤ k → k ≤ count → dot (label_marks labels k) g ≡ pos 0

-- in the confluence space, not zero at c and zero at d
abbrev pub IsApart : Net → List ℕ → ℕ → ℕ → ℕ → List ℤ → Type 0
IsApart net labels count c d g = IsInSpace net labels count g × (entry g (c - 1) ≢ pos 0)
    × (entry g (d - 1) ≡ pos 0)

-- d is the greatest common divisor of the entries
pub record IsDivisor (g : List ℤ) (d : ℕ) : Type 0 where
  pub divides : (k : ℕ) → d ∣ unsigned_abs (entry g k)
  pub greatest : (e : ℕ) → ((k : ℕ) → e ∣ unsigned_abs (entry g k)) → e ∣ d
