use Rattle.crn_tab.proofs.Prelude.{◌≡◌, ◌≢◌, ℕ, ◌<◌, ◌≤◌, pos, entry, row_at}
use Rattle.crn_tab.proofs.spare.bring_rows.Given as goal

abbrev pub invariant-loop-i : goal.invariant-loop-i
invariant-loop-i l = record {
  changed : (k : ℕ) → k < l.i → entry (row_at l.w l.initial.rows k) l.c ≢ pos 0 → row_at l.w l.rows k ≡ row_at l.w l.spare k;
  stays : (k : ℕ) → k < l.i → entry (row_at l.w l.initial.rows k) l.c ≡ pos 0 → row_at l.w l.rows k ≡ row_at l.w l.initial.rows k;
  left : (k : ℕ) → l.i ≤ k → row_at l.w l.rows k ≡ row_at l.w l.initial.rows k;
}
