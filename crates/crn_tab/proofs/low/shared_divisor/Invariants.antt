use Rattle.crn_tab.proofs.Prelude.{ℕ, ◌<◌, ◌≤◌, pos, ◌≤ℤ◌, unsigned_abs, ◌∣◌, WIDE_ENTRY, entry}
use Rattle.crn_tab.proofs.low.shared_divisor.Given as goal

abbrev pub invariant-loop-x : goal.invariant-loop-x
invariant-loop-x l = record {
  greatest : (d : ℕ) → ((k : ℕ) → d ∣ unsigned_abs (entry l.row k)) → d ∣ unsigned_abs l.g;
  each : (k : ℕ) → k < l.x-index → unsigned_abs l.g ∣ unsigned_abs (entry l.row k);
  less : unsigned_abs l.g ≤ unsigned_abs l.known;
  some : pos 1 ≤ℤ l.g;
  small : unsigned_abs l.g < WIDE_ENTRY;
}
