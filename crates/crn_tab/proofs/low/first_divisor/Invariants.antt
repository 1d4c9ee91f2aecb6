use Rattle.crn_tab.proofs.Prelude.{ℕ, ◌<◌, ◌≤◌, pos, ◌≤ℤ◌, unsigned_abs, ◌∣◌, WIDE_ENTRY, entry}
use Rattle.crn_tab.proofs.low.first_divisor.Given as goal

abbrev pub invariant-loop-j : goal.invariant-loop-j
invariant-loop-j l = record {
  greatest : (d : ℕ) → ((k : ℕ) → d ∣ unsigned_abs (entry l.row k)) → d ∣ unsigned_abs l.g;
  less : unsigned_abs l.g ≤ unsigned_abs l.known;
  some : pos 1 ≤ℤ l.g;
  small : unsigned_abs l.g < WIDE_ENTRY;
}
