use Rattle.crn_siphon.proofs.Prelude.{arith, pos, ◌≤ℤ◌, all_given}
use Rattle.crn_siphon.proofs.trial.are_positive.Goals as goal

pub returns : goal.returns
returns c = λ t. all_given (λ w. pos 1 ≤ℤ w) c.args.weights.now (pos 0) (λ k lt. c.loop-weight.invariant k (omega arith))
