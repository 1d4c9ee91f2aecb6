use Rattle.crn_siphon.proofs.Prelude.{ℕ, ◌≤ℤ◌, combination_at, vectors, Has}
use Rattle.std.proofs.Common.{pos}
use Rattle.crn_siphon.proofs.trial.increasing.Given as goal

-- each species of the set so far is increased
abbrev pub invariant-loop-s : goal.invariant-loop-s
invariant-loop-s l = (k : ℕ) → Has l.set k → pos 1 ≤ℤ combination_at l.numbers (vectors l.net) k
