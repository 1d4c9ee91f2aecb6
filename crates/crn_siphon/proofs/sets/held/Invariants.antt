use Rattle.crn_siphon.proofs.Prelude.{◌↔◌, Holds, Has}
use Rattle.std.specs.Prelude.{◌<◌, ℕ}
use Rattle.crn_siphon.proofs.sets.held.Given as goal

-- so far the set has the species that the complex holds
abbrev pub invariant-loop-s : goal.invariant-loop-s
invariant-loop-s l = (k : ℕ) → Has l.set k ↔ ((k < l.s) × Holds l.net l.c k)
