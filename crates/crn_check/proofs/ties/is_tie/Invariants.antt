use Rattle.crn_check.proofs.Prelude.{◌≡◌, ◌≢◌, ◌<◌, ◌⊎◌, ℕ, tie_at, IsSpared}
use Rattle.std.proofs.Common.{pos}
use Rattle.crn_check.proofs.ties.is_tie.Given as goal

-- the products at the complexes so far are zero, but at c and at the one that is spared
abbrev pub invariant-loop-d : goal.invariant-loop-d
invariant-loop-d l = (e : ℕ) → e < l.d → e ≢ l.c → IsSpared l.spared e ⊎ (tie_at l.net l.labels l.count l.tie e ≡ pos 0)
