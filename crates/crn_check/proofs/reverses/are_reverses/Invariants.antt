use Rattle.crn_check.proofs.Prelude.{◌<◌, ℕ, get_or, IsReverse}
use Rattle.crn_check.proofs.reverses.are_reverses.Given as goal

-- each reaction so far has the reverse that the list names
abbrev pub invariant-loop-r : goal.invariant-loop-r
invariant-loop-r l = (q : ℕ) → q < l.r → IsReverse l.net q (get_or l.back q 0)
