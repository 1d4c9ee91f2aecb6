use Rattle.crn_sign.proofs.Prelude.{arith}
use Rattle.crn_sign.proofs.walk.rooms.Goals as goal

pub returns : goal.returns
returns g c = record {
  count = omega (arith, c.loop.invariant.count, c.loop-test.false, c.loop.auto.counter-end, c.length-choices.ensures.choices);
  each = c.loop.invariant.each;
}
