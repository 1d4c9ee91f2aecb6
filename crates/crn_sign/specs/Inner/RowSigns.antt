-- For the contracts of private functions alone.
-- The signs of vectors (x, Ax).
-- Shapes: `signs` has a member for each coordinate.
use Rattle.std.specs.Prelude.{◌≡◌, ℤ, List, length}
use Rattle.std.specs.List.{AllZip}
use Rattle.crn_vec.specs.declared.signs.Sign.{Sign}
use Rattle.crn_vec.specs.Vectors.{Mat, HasSign}
use Rattle.crn_vec.specs.Elementary.{width, InRowSpace}

-- the signs of a vector (x, Ax)
pub record AreRowSigns (a : Mat) (signs : List Sign) : Type 0 where
  pub y : List ℤ
  pub space : InRowSpace a y
  pub are : AllZip HasSign signs y
  pub long : length signs ≡ width a
