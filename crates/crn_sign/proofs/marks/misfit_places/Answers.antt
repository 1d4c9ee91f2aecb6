use Rattle.crn_sign.proofs.Prelude.{bit_at, bit_at-lt, bit_at_and, bit_at_or, bit_at_xor}
use Rattle.crn_sign.proofs.BitLaws.{fits}
use Rattle.crn_sign.proofs.marks.misfit_places.Goals as goal

pub returns : goal.returns
returns c = λ i e.
    fits (bit_at c.args.asked.plus i) (bit_at c.args.asked.minus i) (bit_at c.args.weak i) (bit_at c.args.marks.plus i) (bit_at c.args.marks.minus i) (bit_at-lt c.args.asked.plus i) (bit_at-lt c.args.asked.minus i) (bit_at-lt c.args.weak i) (bit_at-lt c.args.marks.plus i) (bit_at-lt c.args.marks.minus i)
    (simp (bit_at_and, bit_at_or, bit_at_xor) at e)
