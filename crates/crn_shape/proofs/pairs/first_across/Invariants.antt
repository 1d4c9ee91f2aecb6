use Rattle.crn_shape.proofs.Prelude.{ℕ, ◌<◌, GoesAcross}
use Rattle.crn_shape.proofs.pairs.first_across.Given as goal

abbrev pub invariant-loop-r : goal.invariant-loop-r
invariant-loop-r l = (q : ℕ) → q < l.r → GoesAcross l.net l.marks q → ⊥
