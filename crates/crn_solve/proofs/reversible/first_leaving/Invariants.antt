use Rattle.crn_solve.proofs.Prelude.{ℕ, ◌+◌, ◌<◌, JoinsTwoLabels}
use Rattle.crn_solve.proofs.reversible.first_leaving.Given as goal

abbrev pub invariant-loop-r : goal.invariant-loop-r
invariant-loop-r l = (q : ℕ) → q < l.r + 1 → JoinsTwoLabels l.net l.label q → ⊥
