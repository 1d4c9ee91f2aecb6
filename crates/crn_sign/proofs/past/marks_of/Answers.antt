use Rattle.crn_sign.proofs.Prelude.{arith}
use Rattle.crn_sign.proofs.PastLaws.{marked_all, marked_more}
use Rattle.crn_sign.proofs.past.marks_of.Goals as goal

pub put_sign-requires-clause-inside : goal.put_sign-requires-clause-inside
put_sign-requires-clause-inside c = omega (arith, c.loop-c-test.true, c.requires, c.loop-c.invariant.long)

pub put_sign-requires-clause-none : goal.put_sign-requires-clause-none
put_sign-requires-clause-none c = c.loop-c.invariant.rest c.loop-c.c (omega arith)

pub loop-c-preserved : goal.loop-c-preserved
loop-c-preserved c = marked_more c.args.matrix.now c.args.signs.now c.loop-c.c c.loop-c.marks.items c.put_sign.new.marks.items c.loop-c-test.true c.put_sign.ensures c.loop-c.invariant

pub returns : goal.returns
returns c = marked_all c.args.matrix.now c.args.signs.now c.loop-c.c c.loop-c.marks.items (omega (arith, c.loop-c-test.false)) c.loop-c.invariant
