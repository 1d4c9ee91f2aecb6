use Rattle.crn_tab.proofs.Prelude.{◌≡◌, ℕ, ◌<◌, ◌≤◌, ◌*ℤ◌, entry}
use Rattle.crn_tab.proofs.low.restore.Given as goal

abbrev pub invariant-loop-j : goal.invariant-loop-j
invariant-loop-j l = record {
  done : (k : ℕ) → k < l.j → entry l.row k ≡ entry l.initial.row k *ℤ l.by;
  left : (k : ℕ) → l.j ≤ k → entry l.row k ≡ entry l.initial.row k;
}
