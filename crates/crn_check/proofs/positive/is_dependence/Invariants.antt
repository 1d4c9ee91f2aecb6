use Rattle.crn_check.proofs.Prelude.{◌≡◌, ◌<◌, ℕ, combination_at, vectors}
use Rattle.std.proofs.Common.{pos}
use Rattle.crn_check.proofs.positive.is_dependence.Given as goal

abbrev pub invariant-loop-s : goal.invariant-loop-s
invariant-loop-s l = (k : ℕ) → k < l.s → combination_at l.numbers (vectors l.net) k ≡ pos 0
