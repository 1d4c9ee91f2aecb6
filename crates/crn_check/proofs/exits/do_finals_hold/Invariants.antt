use Rattle.crn_check.proofs.Prelude.{◌≢◌, ◌<◌, ◌-◌, ℕ, get_or, IsReaction}
use Rattle.crn_check.proofs.exits.do_finals_hold.Given as goal

-- each reaction so far that leaves its class leaves one whose exit is not 0
abbrev pub invariant-loop-r : goal.invariant-loop-r
invariant-loop-r l = (q y z : ℕ) → q < l.r → IsReaction l.net.reactions q y z → get_or l.labels y 0 ≢ get_or l.labels z 0 → get_or l.exits (get_or l.labels y 0 - 1) 0 ≢ 0
