use Rattle.crn_sign.proofs.Prelude.{w64, and_le_l, bit_at_clear_same, bit_at_clear_other}
use Rattle.crn_sign.proofs.bits.without_bit.Goals as goal

pub returns : goal.returns
returns c = record { less = and_le_l _ _; clear = bit_at_clear_same w64 _ _ c.requires; others = bit_at_clear_other w64 _ _ c.requires }
