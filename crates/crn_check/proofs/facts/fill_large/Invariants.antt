use Rattle.crn_check.proofs.Prelude.{◌≡◌, ◌≤◌, ◌+◌, length, take}
use Rattle.crn_check.proofs.facts.fill_large.Given as goal

-- the list holds the numbers so far, and has room for the others
abbrev pub invariant-loop-value : goal.invariant-loop-value
invariant-loop-value l = (l.list.list ≡ take l.value-index l.values) × (length l.values ≤ l.list.spare + l.value-index)
