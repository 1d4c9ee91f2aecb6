use Rattle.crn_siphon_text.proofs.Prelude.{◌<◌, ℕ, ◌≤ℤ◌, combination_at, vectors, HasMember}
use Rattle.std.proofs.Common.{pos}
use Rattle.crn_siphon_text.proofs.weights.covers.Given as goal

abbrev pub invariant-loop-s : goal.invariant-loop-s
invariant-loop-s l = (k : ℕ) → k < l.s → HasMember l.set k → pos 1 ≤ℤ combination_at l.numbers (vectors l.net) k
