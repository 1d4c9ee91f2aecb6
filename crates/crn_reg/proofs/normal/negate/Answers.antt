use Rattle.crn_reg.proofs.Prelude.{length, ap, ◌∙◌, arith}
use Rattle.crn_reg.proofs.Negatives.{negated_by}
use Rattle.crn_reg.proofs.normal.negate.Goals as goal

pub returns : goal.returns
returns c =
    let long = c.loop-c.invariant.long in
    let all = ap length c.into_vec-items.ensures in
    c.from_vec.ensures.list ∙ negated_by c.args.vector.list c.loop-c.items.items long (λ k lt. c.loop-c.invariant.done k (omega (arith, lt, c.loop-c-test.false, c.len-c-end.ensures, all)))
