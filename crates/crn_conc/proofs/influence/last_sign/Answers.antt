use Rattle.crn_conc.proofs.Prelude.{arith}
use Rattle.crn_conc.proofs.LastSigns.{last_more, last_of}
use Rattle.crn_conc.proofs.influence.last_sign.Goals as goal

pub loop-k-preserved : goal.loop-k-preserved
loop-k-preserved c = last_more c.args.signs.now c.loop-k.k c.loop-k.last c.last_with-last.result c.last_with-last.ensures.zero c.last_with-last.ensures.some c.loop-k.invariant

pub returns : goal.returns
returns c = last_of c.args.signs.now c.loop-k.k c.loop-k.last (omega (arith, c.loop-k-test.false)) c.loop-k.invariant
