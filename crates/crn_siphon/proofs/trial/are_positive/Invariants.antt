use Rattle.crn_siphon.proofs.Prelude.{◌<◌, ℕ, ◌≤ℤ◌, entry}
use Rattle.std.proofs.Common.{pos}
use Rattle.crn_siphon.proofs.trial.are_positive.Given as goal

abbrev pub invariant-loop-weight : goal.invariant-loop-weight
invariant-loop-weight l = (k : ℕ) → k < l.weight-index → pos 1 ≤ℤ entry l.weights k
