use Rattle.crn_siphon.proofs.Prelude.{arith, pos, all_given, IsNarrow}
use Rattle.crn_siphon.proofs.trial.are_narrow.Goals as goal

pub returns : goal.returns
returns c = λ t. all_given IsNarrow c.args.numbers.now (pos 0) (λ k lt. c.loop-number.invariant k (omega arith))
