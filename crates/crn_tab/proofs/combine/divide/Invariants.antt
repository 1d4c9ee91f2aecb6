use Rattle.crn_tab.proofs.Prelude.{◌≡◌, ℕ, ◌<◌, ◌≤◌, ◌*ℤ◌, entry}
use Rattle.crn_tab.proofs.combine.divide.Given as goal

abbrev pub invariant-loop-j : goal.invariant-loop-j
invariant-loop-j l = record {
  done : (k : ℕ) → k < l.j → entry l.work k *ℤ l.by ≡ entry l.initial.work k;
  left : (k : ℕ) → l.j ≤ k → entry l.work k ≡ entry l.initial.work k;
}
