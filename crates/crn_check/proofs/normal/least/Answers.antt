use Rattle.crn_check.proofs.Prelude.{sym, ap, of_z, arith, w128}
use Rattle.crn_check.proofs.Leading.{least_is, least_none}
use Rattle.crn_check.proofs.normal.least.Goals as goal

pub returns-then-numbers-k-ne0 : goal.returns-then-numbers-k-ne0
returns-then-numbers-k-ne0 c = sym (least_is c.args.numbers.now c.loop-k.k (λ e. c.if-numbers-k-ne0.true (ap (of_z w128) e)) c.loop-k.invariant)

pub returns : goal.returns
returns c = sym (least_none c.args.numbers.now (λ j lt. c.loop-k.invariant j (omega (arith, lt, c.loop-k-test.false))))
