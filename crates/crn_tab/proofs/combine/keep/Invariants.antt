use Rattle.crn_tab.proofs.Prelude.{◌≡◌, ℕ, ◌<◌, unsigned_abs, WIDE_ENTRY, entry}
use Rattle.crn_tab.proofs.combine.keep.Given as goal

abbrev pub invariant-loop-j : goal.invariant-loop-j
invariant-loop-j l = record {
  so_far : (k : ℕ) → k < l.j → entry l.row k ≡ entry l.work k;
  small : (k : ℕ) → k < l.j → unsigned_abs (entry l.work k) < WIDE_ENTRY;
}
