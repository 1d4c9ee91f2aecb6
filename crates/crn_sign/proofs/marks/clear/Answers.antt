use Rattle.crn_sign.proofs.Prelude.{arith, Zero, none}
use Rattle.crn_sign.proofs.BitLaws.{made_none, made_step, none_in}
use Rattle.crn_sign.proofs.marks.clear.Goals as goal

pub loop-w-init : goal.loop-w-init
loop-w-init c = made_none (λ m o. Zero) c.args.marks.now c.args.marks.now

pub loop-w-preserved : goal.loop-w-preserved
loop-w-preserved c = made_step (λ m o. Zero) c.args.marks.now c.args.marks.now c.loop-w.marks c.loop-w.w none c.loop-w-test.true none_in c.loop-w.invariant

pub returns : goal.returns
returns c = record { count = c.loop-w.invariant.count; none = λ k lt. c.loop-w.invariant.done k (omega (arith, lt, c.loop-w.invariant.count, c.loop-w-test.false)) }
