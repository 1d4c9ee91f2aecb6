use Rattle.crn_tab.proofs.Prelude.{◌≡◌, ℕ, ◌<◌, length, ◌*ℤ◌, unsigned_abs, WIDE_ENTRY, entry}
use Rattle.crn_tab.proofs.wide.quotients.Given as goal

abbrev pub invariant-loop-j : goal.invariant-loop-j
invariant-loop-j l = record {
  done : (k : ℕ) → k < l.j → entry l.row k *ℤ l.by ≡ entry l.work k;
  small : (k : ℕ) → k < l.j → unsigned_abs (entry l.row k) < WIDE_ENTRY;
  long : length l.row ≡ length l.work;
}
