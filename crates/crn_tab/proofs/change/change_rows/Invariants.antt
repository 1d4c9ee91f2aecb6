use Rattle.crn_tab.proofs.Prelude.{◌≡◌, ◌≢◌, ℕ, ◌<◌, ◌≤◌, ◌-◌, ◌^◌, length, IsTrue, slice_set, row_at, AreBelow, IsRowChanged}
use Rattle.crn_tab.proofs.change.change_rows.Given as goal

abbrev pub invariant-loop-i : goal.invariant-loop-i
invariant-loop-i l = record {
  changed : (k : ℕ) → k < l.i → k ≢ l.lead.row → IsRowChanged (length l.lead.entries.now) l.lead.slot k l.initial.rows (slice_set l.lead.entries.now (length l.lead.entries.now - 1) l.lead.own.now) l.rows;
  low : IsTrue l.low → (k : ℕ) → k < l.i → k ≢ l.lead.row → AreBelow (2 ^ 30) (row_at (length l.lead.entries.now) l.rows k);
  short : IsTrue l.short → IsTrue l.initial.short × ((k : ℕ) → k < l.i → k ≢ l.lead.row → AreBelow (2 ^ 14) (row_at (length l.lead.entries.now) l.rows k));
  left : (k : ℕ) → l.i ≤ k → row_at (length l.lead.entries.now) l.rows k ≡ row_at (length l.lead.entries.now) l.initial.rows k;
  long : length l.rows ≡ length l.initial.rows;
}
