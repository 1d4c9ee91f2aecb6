use Rattle.crn_tab.proofs.Prelude.{◌≡◌, ℕ, ◌<◌, ◌≤◌, ◌^◌, ◌*ℤ◌, ◌-ℤ◌, IsTrue, unsigned_abs, entry}
use Rattle.crn_tab.proofs.short.put_quotients.Given as goal

abbrev pub invariant-loop-j : goal.invariant-loop-j
invariant-loop-j l = record {
  done : IsTrue l.all → (k : ℕ) → k < l.j → entry l.row k *ℤ l.by ≡ (l.p *ℤ entry l.initial.row k) -ℤ (l.q *ℤ entry l.lead k);
  short : IsTrue l.all → (k : ℕ) → k < l.j → unsigned_abs (entry l.row k) < 2 ^ 14;
  left : (k : ℕ) → l.j ≤ k → entry l.row k ≡ entry l.initial.row k;
}
