-- For the contracts of private functions alone.
-- Tables with a sign for each species, and the last sign of a row.
-- Source: this project's own.
-- Shapes: places count from 0.
use Rattle.std.specs.Prelude.{◌≡◌, ◌<◌, ◌≤◌, ℕ, true, false, List, drop, length}
use Rattle.crn_vec.specs.declared.signs.Sign.{Sign}
use Rattle.crn_vec.specs.Lists.{IsIn}
use Rattle.crn_vec.specs.Problems.{all_zero}

-- each row of the table has this many signs
abbrev pub AreWide : ℕ → List (List Sign) → Type 0
AreWide n table = (signs : List Sign) → IsIn signs table → length signs ≡ n

-- the signs from place `last` on are all zero, and those after fewer are not
pub record IsLast (signs : List Sign) (last : ℕ) : Type 0 where
  pub after : (n : ℕ) → last ≤ n → all_zero (drop n signs) ≡ true
  pub before : (n : ℕ) → n < last → all_zero (drop n signs) ≡ false
