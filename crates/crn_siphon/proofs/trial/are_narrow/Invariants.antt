use Rattle.crn_siphon.proofs.Prelude.{◌<◌, ℕ, entry, IsNarrow}
use Rattle.crn_siphon.proofs.trial.are_narrow.Given as goal

abbrev pub invariant-loop-number : goal.invariant-loop-number
invariant-loop-number l = (k : ℕ) → k < l.number-index → IsNarrow (entry l.numbers k)
