use Rattle.crn_check.proofs.Prelude.{◌≡◌, ◌≢◌, ◌<◌, ℕ, get_or, entry}
use Rattle.std.proofs.Common.{pos}
use Rattle.crn_check.proofs.sides.are_zero_outside.Given as goal

-- the marks so far are 0 outside the class
abbrev pub invariant-loop-c : goal.invariant-loop-c
invariant-loop-c l = (d : ℕ) → d < l.c → get_or l.labels d 0 ≢ l.class → entry l.marks d ≡ pos 0
