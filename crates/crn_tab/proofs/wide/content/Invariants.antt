use Rattle.crn_tab.proofs.Prelude.{ℕ, ◌<◌, pos, ◌≤ℤ◌, unsigned_abs, ◌∣◌, WIDE_ENTRY, entry}
use Rattle.crn_tab.proofs.wide.content.Given as goal

abbrev pub invariant-loop-x : goal.invariant-loop-x
invariant-loop-x l = record {
  greatest : (d : ℕ) → ((k : ℕ) → d ∣ unsigned_abs (entry l.work k)) → d ∣ unsigned_abs l.g;
  each : (k : ℕ) → k < l.x-index → unsigned_abs l.g ∣ unsigned_abs (entry l.work k);
  some : pos 1 ≤ℤ l.g;
  small : unsigned_abs l.g < WIDE_ENTRY;
  shift : l.inverse.shift < 64;
}
