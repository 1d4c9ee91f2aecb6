use Rattle.crn_siphon_text.proofs.Prelude.{◌≡◌, ◌<◌, ℕ, entry}
use Rattle.std.proofs.Common.{pos}
use Rattle.crn_siphon_text.proofs.weights.is_some.Given as goal

abbrev pub invariant-loop-weight : goal.invariant-loop-weight
invariant-loop-weight l = (k : ℕ) → k < l.weight-index → entry l.x k ≡ pos 0
