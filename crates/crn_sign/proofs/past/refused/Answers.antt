use Rattle.crn_sign.proofs.Prelude.{bit_at, bit_at-lt, bit_at_or, bit_at_xor}
use Rattle.crn_sign.proofs.BitLaws.{weighed}
use Rattle.crn_sign.proofs.past.refused.Goals as goal

pub returns : goal.returns
returns c = λ i e.
    let q = c.args.asked in
    let m = c.args.marks in
    weighed (bit_at q.plus i) (bit_at q.minus i) (bit_at m.plus i) (bit_at m.minus i) (bit_at-lt q.plus i) (bit_at-lt q.minus i) (bit_at-lt m.plus i) (bit_at-lt m.minus i) (simp (bit_at_or, bit_at_xor) at e)
