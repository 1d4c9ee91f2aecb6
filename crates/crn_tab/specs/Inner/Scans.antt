-- For the contracts of private functions alone. What a pass over a kept row shows of the vectors that it represents.
use Rattle.std.specs.Prelude.{pos, ℤ, ◌*ℤ◌, ◌≡◌, ◌≤ℤ◌}
use Rattle.crn_vec.specs.Vectors.{HasSign}
use Rattle.crn_vec.specs.declared.signs.Sign.{Sign}

-- y is x times a number of this sign, over a positive number
pub record Follows (s : Sign) (x y : ℤ) : Type 0 where
  pub d : ℤ
  pub some : pos 1 ≤ℤ d
  pub z : ℤ
  pub sign : HasSign s z
  pub is : d *ℤ y ≡ z *ℤ x
