use Rattle.crn_tab.proofs.Prelude.{◌≡◌, ℕ, ◌<◌, ◌^◌, ◌*ℤ◌, ◌-ℤ◌, unsigned_abs, entry}
use Rattle.crn_tab.proofs.combine.products.Given as goal

abbrev pub invariant-loop-j : goal.invariant-loop-j
invariant-loop-j l = record {
  value : (k : ℕ) → k < l.j → entry l.work k ≡ (l.p *ℤ entry l.row k) -ℤ (l.q *ℤ entry l.lead k);
  small : (k : ℕ) → k < l.j → unsigned_abs (entry l.work k) < 2 ^ 125;
}
