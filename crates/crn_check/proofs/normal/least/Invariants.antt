use Rattle.crn_check.proofs.Prelude.{◌≡◌, ◌<◌, ℕ, entry}
use Rattle.std.proofs.Common.{pos}
use Rattle.crn_check.proofs.normal.least.Given as goal

-- the numbers so far are zero
abbrev pub invariant-loop-k : goal.invariant-loop-k
invariant-loop-k l = (j : ℕ) → j < l.k → entry l.numbers j ≡ pos 0
