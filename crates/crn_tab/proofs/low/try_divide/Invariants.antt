use Rattle.crn_tab.proofs.Prelude.{◌≡◌, ℕ, ◌<◌, ◌≤◌, length, ◌*ℤ◌, entry, AreSmall}
use Rattle.crn_tab.proofs.low.try_divide.Given as goal

abbrev pub invariant-loop-j : goal.invariant-loop-j
invariant-loop-j l = record {
  done : (k : ℕ) → k < l.j → entry l.row k *ℤ l.by ≡ entry l.initial.row k;
  left : (k : ℕ) → l.j ≤ k → entry l.row k ≡ entry l.initial.row k;
  small : AreSmall l.row;
  long : length l.row ≡ length l.initial.row;
}
