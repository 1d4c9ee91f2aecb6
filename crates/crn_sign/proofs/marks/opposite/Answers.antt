use Rattle.crn_sign.proofs.Prelude.{bit_at, bit_at-lt}
use Rattle.crn_sign.proofs.BitLaws.{swaps}
use Rattle.crn_sign.proofs.marks.opposite.Goals as goal

pub returns : goal.returns
returns c = λ i. swaps (bit_at c.args.one.plus i) (bit_at c.args.one.minus i) (bit_at-lt c.args.one.plus i) (bit_at-lt c.args.one.minus i)
