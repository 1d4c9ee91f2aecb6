use Rattle.crn_sign.proofs.Prelude.{arith, united}
use Rattle.crn_sign.proofs.BitLaws.{made_none, made_step}
use Rattle.crn_sign.proofs.marks.put_united.Goals as goal

pub loop-w-init : goal.loop-w-init
loop-w-init c = made_none united c.args.one.now c.args.marks.now

pub loop-w-preserved : goal.loop-w-preserved
loop-w-preserved c = made_step united c.args.one.now c.args.marks.now c.loop-w.marks c.loop-w.w c.united.result c.loop-w-test.true c.united.ensures c.loop-w.invariant

pub returns : goal.returns
returns c = record { count = c.loop-w.invariant.count; each = λ k lt. c.loop-w.invariant.done k (omega (arith, lt, c.loop-w.invariant.count, c.loop-w-test.false)) }
