use Rattle.crn_check.proofs.Prelude.{◌≡◌, ◌≤◌, ℕ, dot, label_marks}
use Rattle.std.proofs.Common.{pos}
use Rattle.crn_check.proofs.space.are_sums_zero.Given as goal

-- the sums over the classes so far are zero
abbrev pub invariant-loop-k : goal.invariant-loop-k
invariant-loop-k l = (j : ℕ) → 1 ≤ j → j ≤ l.k → dot (label_marks l.labels j) l.numbers ≡ pos 0
