use Rattle.crn_shape.proofs.Prelude.{◌≡◌, ◌<◌, ℕ, false, HasSum}
use Rattle.crn_shape.proofs.within.has_sum_before.Given as goal

-- none of the reactions so far has the sum, if none was met
abbrev pub invariant-loop-q : goal.invariant-loop-q
invariant-loop-q l = l.met ≡ false → (k : ℕ) → k < l.q → HasSum l.net l.sum k → ⊥
