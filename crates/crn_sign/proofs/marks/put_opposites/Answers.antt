use Rattle.crn_sign.proofs.Prelude.{arith, negative}
use Rattle.crn_sign.proofs.BitLaws.{made_none, made_step}
use Rattle.crn_sign.proofs.MarkLaws.{negatives}
use Rattle.crn_sign.proofs.marks.put_opposites.Goals as goal

pub loop-w-init : goal.loop-w-init
loop-w-init c = made_none (λ m o. negative m) c.args.one.now c.args.into.now

pub loop-w-preserved : goal.loop-w-preserved
loop-w-preserved c = made_step (λ m o. negative m) c.args.one.now c.args.into.now c.loop-w.into c.loop-w.w c.opposite.result c.loop-w-test.true c.opposite.ensures c.loop-w.invariant

pub returns : goal.returns
returns c =
    negatives c.args._matrix.now c.args.one.now c.args.into.now c.loop-w.into c.requires.one c.requires.room (record { count = c.loop-w.invariant.count; each = λ k lt. c.loop-w.invariant.done k (omega (arith, lt, c.loop-w.invariant.count, c.loop-w-test.false)) })
