use Rattle.crn_siphon.proofs.Prelude.{arith, pos, ◌≤ℤ◌, all_given}
use Rattle.crn_siphon.proofs.trial.are_weights.Goals as goal

pub returns : goal.returns
returns c = λ t. all_given (λ w. pos 0 ≤ℤ w) c.args.weights.now (pos 0) (λ k lt. c.loop-weight.invariant k (omega arith))
