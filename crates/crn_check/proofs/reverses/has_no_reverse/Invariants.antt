use Rattle.crn_check.proofs.Prelude.{◌+◌, ◌-◌, ◌<◌, ℕ, IsReverse}
use Rattle.crn_check.proofs.reverses.has_no_reverse.Given as goal

-- no reaction so far is the reverse of the named one
abbrev pub invariant-loop-r : goal.invariant-loop-r
invariant-loop-r l = (q : ℕ) → q < l.r → IsReverse l.net (l.reaction - 1) (q + 1) → ⊥
