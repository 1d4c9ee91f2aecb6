use Rattle.crn_conc.proofs.Prelude.{arith, word_at, IsAskedOf}
use Rattle.crn_conc.proofs.SumLaws.{all_made, making_none, making_step}
use Rattle.crn_conc.proofs.kinds.put_asked_of_sums.Goals as goal

pub loop-w-init : goal.loop-w-init
loop-w-init c = making_none (λ w x. IsAskedOf (word_at c.args.settled.now w) (word_at c.args.sums.now w) x) c.args.asked.now

pub loop-w-preserved : goal.loop-w-preserved
loop-w-preserved c = making_step (λ w x. IsAskedOf (word_at c.args.settled.now w) (word_at c.args.sums.now w) x) c.args.asked.now c.loop-w.asked c.loop-w.w c.asked_of_sums.result c.loop-w-test.true c.asked_of_sums.ensures c.loop-w.invariant

pub returns : goal.returns
returns c = all_made (λ w x. IsAskedOf (word_at c.args.settled.now w) (word_at c.args.sums.now w) x) c.args.asked.now c.loop-w.asked c.loop-w.w (omega (arith, c.loop-w.invariant.count, c.loop-w-test.false)) c.loop-w.invariant
