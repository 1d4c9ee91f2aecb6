use Rattle.crn_farkas.proofs.Prelude.{ℕ, ◌<◌, unsigned_abs, WIDE_SOLUTION, entry}
use Rattle.crn_farkas.proofs.tested.are_below.Given as goal

abbrev pub invariant-loop-x : goal.invariant-loop-x
invariant-loop-x l = (k : ℕ) → k < l.x-index → unsigned_abs (entry l.v k) < WIDE_SOLUTION
