use Rattle.crn_sign.proofs.Prelude.{◌-◌, arith, and_le_r}
use Rattle.crn_sign.proofs.bits.push_places.Goals as goal

pub bits-smaller : goal.bits-smaller
bits-smaller c = omega (arith, and_le_r c.bits.rest (c.bits.rest - 1))
