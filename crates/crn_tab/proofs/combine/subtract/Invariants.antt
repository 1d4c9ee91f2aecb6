use Rattle.crn_tab.proofs.Prelude.{◌≡◌, ℕ, ◌<◌, ◌≤◌, ◌*ℤ◌, ◌-ℤ◌, unsigned_abs, WIDE_ENTRY, entry}
use Rattle.crn_tab.proofs.combine.subtract.Given as goal

abbrev pub invariant-loop-j : goal.invariant-loop-j
invariant-loop-j l = record {
  so_far : (k : ℕ) → k < l.j → entry l.row k ≡ (l.p *ℤ entry l.initial.row k) -ℤ (l.q *ℤ entry l.lead k);
  small : (k : ℕ) → k < l.j → unsigned_abs (entry l.row k) < WIDE_ENTRY;
  left : (k : ℕ) → l.j ≤ k → entry l.row k ≡ entry l.initial.row k;
}
