use Rattle.crn_tab.proofs.Prelude.{◌≡◌, ℕ, ◌<◌, entry}
use Rattle.crn_tab.proofs.short.put_long.Given as goal

abbrev pub invariant-loop-j : goal.invariant-loop-j
invariant-loop-j l = (k : ℕ) → k < l.j → entry l.into k ≡ entry l.row k
