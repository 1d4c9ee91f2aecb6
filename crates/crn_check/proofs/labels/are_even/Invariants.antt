use Rattle.crn_check.proofs.Prelude.{◌≡◌, ◌<◌, ℕ, get_or, IsReaction}
use Rattle.crn_check.proofs.labels.are_even.Given as goal

-- the complexes of each reaction so far have equal labels
abbrev pub invariant-loop-r : goal.invariant-loop-r
invariant-loop-r l = (q y z : ℕ) → q < l.r → IsReaction l.net.reactions q y z → get_or l.labels y 0 ≡ get_or l.labels z 0
