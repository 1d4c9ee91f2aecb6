use Rattle.crn_sign.proofs.Prelude.{bit_at, bit_at-lt, bit_at_or}
use Rattle.crn_sign.proofs.BitLaws.{joins}
use Rattle.crn_sign.proofs.marks.united.Goals as goal

pub returns : goal.returns
returns c = λ i.
    simp bit_at_or (joins (bit_at c.args.one.plus i) (bit_at c.args.one.minus i) (bit_at c.args.other.plus i) (bit_at c.args.other.minus i) (bit_at-lt c.args.one.plus i) (bit_at-lt c.args.one.minus i) (bit_at-lt c.args.other.plus i) (bit_at-lt c.args.other.minus i))
