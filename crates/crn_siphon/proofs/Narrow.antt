-- What the tests of proposals take of their numbers.
use Rattle.crn_siphon.proofs.Prelude.{List, [], ◌∷◌, ℤ, arith, AllByRecursion, IsNarrow, AreWithin, WIDE_SOLUTION}

-- numbers of a certificate are small enough to be multiplied
pub narrow_within : (g : List ℤ) → AllByRecursion IsNarrow g → AreWithin WIDE_SOLUTION g
narrow_within [] h = tt
narrow_within (x ∷ g) h = (omega (arith, h.0), narrow_within g h.1)
