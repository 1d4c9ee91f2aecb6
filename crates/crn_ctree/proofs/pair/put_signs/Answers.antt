use Rattle.crn_ctree.proofs.Prelude.{arith}
use Rattle.crn_ctree.proofs.PairLaws.{signs_are}
use Rattle.crn_ctree.proofs.pair.put_signs.Goals as goal

pub returns : goal.returns
returns c = signs_are c.args.net.now c.args.weights.now c.loop-s.into c.loop-s.invariant.0 (λ s lt. c.loop-s.invariant.1 s (omega (arith, lt, c.loop-s-test.false, c.loop-s.auto.s-end, c.species-s-end.ensures.count)))
