use Rattle.crn_siphon.proofs.Prelude.{◌≡◌, ◌<◌, ◌≤◌, ℕ, pos, entry, change_at}
use Rattle.crn_siphon.proofs.changes.changes_of.Given as goal

-- the entries so far are changes, and the others are not
abbrev pub invariant-loop-species : goal.invariant-loop-species
invariant-loop-species l = record {
  done : (s : ℕ) → s < l.species → change_at l.list.items s ≡ entry l.vector s;
  rest : (s : ℕ) → l.species ≤ s → change_at l.list.items s ≡ pos 0;
}
