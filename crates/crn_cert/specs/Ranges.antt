-- Lists of a length whose numbers are in a range.
-- Source: this project's own.
use Rattle.std.specs.Prelude.{◌≡◌, ◌≤◌, ◌<◌, ◌⊎◌, ℕ, ℤ, pos, List, length, unsigned_abs}
use Rattle.std.specs.List.{AllByRecursion}
use Rattle.crn_vec.specs.declared.limits.TheConstants.{WIDE_SOLUTION}

-- x is from `least` to `greatest`
abbrev pub IsFrom : ℕ → ℕ → ℕ → Type 0
IsFrom least greatest x = (least ≤ x) × (x ≤ greatest)

-- a number of a certificate
abbrev pub IsNarrow : ℤ → Type 0
IsNarrow x = unsigned_abs x < WIDE_SOLUTION

-- `count` numbers from `least` to `greatest`
pub record AreFrom (count least greatest : ℕ) (xs : List ℕ) : Type 0 where
  pub long : length xs ≡ count
  pub each : AllByRecursion (λ x. (least ≤ x) × (x ≤ greatest)) xs

-- `count` numbers of a certificate
pub record AreFree (count : ℕ) (xs : List ℤ) : Type 0 where
  pub long : length xs ≡ count
  pub each : AllByRecursion IsNarrow xs

-- `count` rows of `width` numbers of a certificate each
pub record AreFreeRows (count width : ℕ) (rows : List (List ℤ)) : Type 0 where
  pub long : length rows ≡ count
  pub each : AllByRecursion (AreFree width) rows

-- `count` marks, each 0 or 1
pub record AreBits (count : ℕ) (xs : List ℤ) : Type 0 where
  pub long : length xs ≡ count
  pub each : AllByRecursion (λ x. (x ≡ pos 0) ⊎ (x ≡ pos 1)) xs
