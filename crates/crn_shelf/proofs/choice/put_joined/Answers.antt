use Rattle.crn_shelf.proofs.Prelude.{arith}
use Rattle.crn_shelf.proofs.Joins.{joining_all, joining_none, joining_word}
use Rattle.crn_shelf.proofs.choice.put_joined.Goals as goal

pub loop-w-init : goal.loop-w-init
loop-w-init c = record {
  sums = joining_none c.args.above.now c.args.added.now c.args.sums.now c.requires.sums;
  asked = joining_none c.args.above.now c.args.added.now c.args.asked.now c.requires.asked;
}

pub loop-w-preserved : goal.loop-w-preserved
loop-w-preserved c = record {
  sums = joining_word c.args.above.now c.args.added.now c.loop-w.sums c.loop-w.w c.joined-word.result c.loop-w-test.true c.joined-word.ensures c.loop-w.invariant.sums;
  asked = joining_word c.args.above.now c.args.added.now c.loop-w.asked c.loop-w.w c.joined-word.result c.loop-w-test.true c.joined-word.ensures c.loop-w.invariant.asked;
}

pub returns : goal.returns
returns c = record {
  sums = joining_all c.args.above.now c.args.added.now c.loop-w.sums c.loop-w.w (omega (arith, c.loop-w-test.false)) c.loop-w.invariant.sums;
  asked = joining_all c.args.above.now c.args.added.now c.loop-w.asked c.loop-w.w (omega (arith, c.loop-w-test.false)) c.loop-w.invariant.asked;
}
