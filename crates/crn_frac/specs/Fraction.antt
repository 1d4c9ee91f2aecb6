-- What contracts see of a fraction: its parts, in lowest terms.
use Rattle.std.specs.Prelude.{ℤ, pos, ◌≤ℤ◌, unsigned_abs}
use Rattle.std.specs.Int.{IsGcd}

-- a numerator and a denominator
pub record Fraction : Type 0 where
  pub num : ℤ
  pub den : ℤ

-- the denominator is at least 1, and no other number than 1 divides both parts
pub record IsReduced (num den : ℤ) : Type 0 where
  pub positive : pos 1 ≤ℤ den
  pub lowest : IsGcd (unsigned_abs num) (unsigned_abs den) 1
