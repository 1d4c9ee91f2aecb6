use Rattle.crn_check.proofs.Prelude.{arith, pos, ◌≤ℤ◌, all_given}
use Rattle.crn_check.proofs.Decided.{granted}
use Rattle.crn_check.proofs.positive.are_positive.Goals as goal

pub returns : goal.returns
returns c = granted (all_given (λ x. pos 1 ≤ℤ x) c.args.values.now (pos 0) (λ k lt. c.loop-value.invariant k (omega arith)))
