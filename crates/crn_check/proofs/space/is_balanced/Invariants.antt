use Rattle.crn_check.proofs.Prelude.{◌≡◌, ◌<◌, ℕ, combination_at}
use Rattle.std.proofs.Common.{pos}
use Rattle.crn_check.proofs.space.is_balanced.Given as goal

-- the amounts of the species so far are zero
abbrev pub invariant-loop-s : goal.invariant-loop-s
invariant-loop-s l = (k : ℕ) → k < l.s → combination_at l.numbers l.net.complexes k ≡ pos 0
