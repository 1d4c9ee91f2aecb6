use Rattle.crn_ctree.proofs.Prelude.{arith, false≢true}
use Rattle.crn_ctree.proofs.SignalLaws.{none_some}
use Rattle.crn_ctree.proofs.signal.is_some.Goals as goal

pub returns : goal.returns
returns c = (
  λ t. absurd (false≢true t),
  λ some. absurd (none_some c.args.numbers.now (λ j lt. c.loop-k.invariant j (omega (arith, lt, c.loop-k-test.false))) some),
)
