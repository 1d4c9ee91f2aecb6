use Rattle.crn_check.proofs.Prelude.{◌<◌, ℕ, IsReaction, Falls}
use Rattle.crn_check.proofs.levels.do_levels_fall.Given as goal

-- each reaction so far stays in its class or falls
abbrev pub invariant-loop-r : goal.invariant-loop-r
invariant-loop-r l = (q y z : ℕ) → q < l.r → IsReaction l.net.reactions q y z → Falls l.labels l.level y z
