use Rattle.crn_tab.proofs.Prelude.{ℕ, ◌<◌, ◌^◌, IsTrue, unsigned_abs, entry}
use Rattle.crn_tab.proofs.short.are_short.Given as goal

abbrev pub invariant-loop-x : goal.invariant-loop-x
invariant-loop-x l = IsTrue l.short → (k : ℕ) → k < l.x-index → unsigned_abs (entry l.row k) < 2 ^ 14
