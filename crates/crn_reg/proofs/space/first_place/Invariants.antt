use Rattle.crn_reg.proofs.Prelude.{◌≡◌, ◌<◌, ℕ, pos, entry}
use Rattle.crn_reg.proofs.space.first_place.Given as goal

abbrev pub invariant-loop-c : goal.invariant-loop-c
invariant-loop-c l = (k : ℕ) → k < l.c → entry l.vector k ≡ pos 0
