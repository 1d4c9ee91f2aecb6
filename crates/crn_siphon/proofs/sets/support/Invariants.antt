use Rattle.crn_siphon.proofs.Prelude.{◌↔◌, pos, entry, Has}
use Rattle.std.specs.Prelude.{◌≢◌, ◌<◌, ℕ}
use Rattle.crn_siphon.proofs.sets.support.Given as goal

-- so far the set has the species that have a weight
abbrev pub invariant-loop-s : goal.invariant-loop-s
invariant-loop-s l = (k : ℕ) → Has l.set k ↔ ((k < l.s) × (entry l.weights k ≢ pos 0))
