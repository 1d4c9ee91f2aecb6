use Rattle.crn_check.proofs.Prelude.{◌≢◌, ◌+◌, ◌<◌, ℕ, get_or, GoesOut}
use Rattle.crn_check.proofs.exits.do_exits_leave.Given as goal

-- each exit so far that is not 0 leaves its class
abbrev pub invariant-loop-k : goal.invariant-loop-k
invariant-loop-k l = (i : ℕ) → i < l.k → get_or l.exits i 0 ≢ 0 → GoesOut l.net l.labels (i + 1) (get_or l.exits i 0)
