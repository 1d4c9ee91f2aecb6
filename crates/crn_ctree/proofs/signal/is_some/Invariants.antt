use Rattle.crn_ctree.proofs.Prelude.{◌≡◌, ℕ, ◌<◌, pos, entry}
use Rattle.crn_ctree.proofs.signal.is_some.Given as goal

abbrev pub invariant-loop-k : goal.invariant-loop-k
invariant-loop-k l = (j : ℕ) → j < l.k → entry l.numbers j ≡ pos 0
