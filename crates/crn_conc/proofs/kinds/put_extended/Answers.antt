use Rattle.crn_conc.proofs.Prelude.{arith, word_at, IsExtended}
use Rattle.crn_conc.proofs.SumLaws.{all_made, making_none, making_step}
use Rattle.crn_conc.proofs.kinds.put_extended.Goals as goal

pub loop-w-init : goal.loop-w-init
loop-w-init c = making_none (λ w x. IsExtended (word_at c.args.above.now w) (word_at c.args.signs.now w) c.args.option x) c.args.sums.now

pub loop-w-preserved : goal.loop-w-preserved
loop-w-preserved c = making_step (λ w x. IsExtended (word_at c.args.above.now w) (word_at c.args.signs.now w) c.args.option x) c.args.sums.now c.loop-w.sums c.loop-w.w c.extended.result c.loop-w-test.true c.extended.ensures c.loop-w.invariant

pub returns : goal.returns
returns c = all_made (λ w x. IsExtended (word_at c.args.above.now w) (word_at c.args.signs.now w) c.args.option x) c.args.sums.now c.loop-w.sums c.loop-w.w (omega (arith, c.loop-w.invariant.count, c.loop-w-test.false)) c.loop-w.invariant
