use Rattle.crn_tab.proofs.Prelude.{ℕ, ◌<◌, ◌^◌, unsigned_abs, entry}
use Rattle.crn_tab.proofs.low.all_low.Given as goal

abbrev pub invariant-loop-x : goal.invariant-loop-x
invariant-loop-x l = (k : ℕ) → k < l.x-index → unsigned_abs (entry l.rows k) < 2 ^ 30
