use Rattle.crn_check.proofs.Prelude.{◌<◌, ℕ, ◌≤ℤ◌, entry}
use Rattle.std.proofs.Common.{pos}
use Rattle.crn_check.proofs.positive.are_positive.Given as goal

abbrev pub invariant-loop-value : goal.invariant-loop-value
invariant-loop-value l = (k : ℕ) → k < l.value-index → pos 1 ≤ℤ entry l.values k
