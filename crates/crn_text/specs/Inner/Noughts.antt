-- For the contracts of private functions alone.
-- Species of which a complex has none.
use Rattle.std.specs.Prelude.{◌≡◌, ◌≤◌, ℕ, ℤ, pos, List, length, take, drop}
use Rattle.std.specs.List.{AllByRecursion}

-- the first n amounts are 0
pub record AreNoughts (n : ℕ) (amounts : List ℤ) : Type 0 where
  pub many : n ≤ length amounts
  pub noughts : AllByRecursion (λ a. a ≡ pos 0) (take n amounts)

-- the first n amounts are 0, and these are after them
pub record HasNoughts (n : ℕ) (amounts rest : List ℤ) : Type 0 where
  pub many : n ≤ length amounts
  pub noughts : AllByRecursion (λ a. a ≡ pos 0) (take n amounts)
  pub left : rest ≡ drop n amounts
