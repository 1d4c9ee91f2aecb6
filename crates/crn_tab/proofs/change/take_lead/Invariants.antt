use Rattle.crn_tab.proofs.Prelude.{◌≡◌, ℕ, ◌<◌, ◌⊎◌, length, ◌*ℤ◌, ◌-ℤ◌, slice_index, unsigned_abs, IsTrue, entry, AreBelow, AreSmall}
use Rattle.crn_tab.proofs.change.take_lead.Given as goal

abbrev pub invariant-loop-s : goal.invariant-loop-s
invariant-loop-s l = record {
  each : (k : ℕ) → (entry l.row k ≡ entry l.initial.row k) ⊎ (entry l.row k ≡ entry l.initial.row k -ℤ (l.q *ℤ entry l.lead k));
  done : (i : ℕ) → i < l.s → entry l.row (slice_index l.places i) ≡ entry l.initial.row (slice_index l.places i) -ℤ (l.q *ℤ entry l.lead (slice_index l.places i));
  left : (k : ℕ) → ((i : ℕ) → i < l.s → slice_index l.places i ≡ k → ⊥) → entry l.row k ≡ entry l.initial.row k;
  small : AreSmall l.row;
  below : IsTrue l.below → AreBelow (unsigned_abs l.bound) l.row;
  long : length l.row ≡ length l.initial.row;
}
