use Rattle.crn_tab.proofs.Prelude.{◌≡◌, ℕ, ◌<◌, ◌⊎◌, length, ◌*ℤ◌, ◌-ℤ◌, slice_index, entry, AreSmall}
use Rattle.crn_tab.proofs.sparse.put_differences.Given as goal

abbrev pub invariant-loop-s : goal.invariant-loop-s
invariant-loop-s l = record {
  each : (k : ℕ) → (entry l.into k ≡ entry l.row k) ⊎ (entry l.into k ≡ entry l.row k -ℤ (l.q *ℤ entry l.lead k));
  done : (i : ℕ) → i < l.s → entry l.into (slice_index l.places i) ≡ entry l.row (slice_index l.places i) -ℤ (l.q *ℤ entry l.lead (slice_index l.places i));
  small : AreSmall l.into;
  long : length l.into ≡ length l.row;
}
