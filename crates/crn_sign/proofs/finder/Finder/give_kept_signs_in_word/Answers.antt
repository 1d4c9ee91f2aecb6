use Rattle.crn_sign.proofs.Prelude.{◌-◌, bit_and, arith, and_le_l, and_le_r}
use Rattle.crn_sign.proofs.finder.Finder.give_kept_signs_in_word.Goals as goal

pub places-smaller : goal.places-smaller
places-smaller c = let rest = c.places.rest in omega (arith, and_le_r rest (rest - 1), and_le_l (bit_and rest (rest - 1)) c.misfit_places.result)
