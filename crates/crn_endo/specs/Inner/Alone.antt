-- For the contracts of private functions alone.
-- The sign problem of a reaction with the least part B, which requires nothing of one number. The same prefixes are
-- feasible, and its search forms no tableau of the slopes for that part.
use Rattle.std.specs.Prelude.{◌+◌, ℕ, [], ◌∷◌, length, replicate}
use Rattle.crn_vec.specs.declared.signs.Kind.TheVariants.{Free}
use Rattle.crn_vec.specs.Elementary.{width}
use Rattle.crn_vec.specs.Network.{Net}
use Rattle.crn_vec.specs.Problems.{Signed}
use Rattle.crn_vec.specs.Vectors.{Mat}
use Rattle.crn_endo_check.specs.Slopes.{is_slope_closed, others, slope_kinds, slope_matrix}

-- a column and no row
abbrev pub bare : Mat
bare = record { cols = 1; rows = [] }

-- the sign problem of reaction r with that part B
abbrev pub slopes_alone : Net → ℕ → Signed
slopes_alone net r = record {
  choices = 1 + length (others net r);
  matrix_a = slope_matrix net r;
  matrix_b = bare;
  kinds_a = slope_kinds net r;
  kinds_b = λ p. replicate (width bare) Free;
  closed = is_slope_closed;
}
