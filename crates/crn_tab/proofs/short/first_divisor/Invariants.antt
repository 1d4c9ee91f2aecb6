use Rattle.crn_tab.proofs.Prelude.{ℕ, ◌<◌, ◌^◌, pos, ◌≤ℤ◌, ◌*ℤ◌, ◌-ℤ◌, unsigned_abs, ◌∣◌, entry}
use Rattle.crn_tab.proofs.short.first_divisor.Given as goal

abbrev pub invariant-loop-j : goal.invariant-loop-j
invariant-loop-j l = record {
  greatest : (d : ℕ) → ((k : ℕ) → d ∣ unsigned_abs ((l.p *ℤ entry l.row k) -ℤ (l.q *ℤ entry l.lead k))) → d ∣ unsigned_abs l.g;
  some : pos 1 ≤ℤ l.g;
  short : unsigned_abs l.g < 2 ^ 14;
}
