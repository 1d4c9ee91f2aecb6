use Rattle.crn_defi.proofs.Prelude.{ℕ, ◌<◌, ◌≤◌, get_or}
use Rattle.crn_defi.proofs.one.first_large.Given as goal

abbrev pub invariant-loop-k : goal.invariant-loop-k
invariant-loop-k l = (j : ℕ) → j < l.k → get_or l.deficiencies j 0 ≤ 1
