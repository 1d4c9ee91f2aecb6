use Rattle.crn_tab.proofs.Prelude.{◌≡◌, ℕ, ◌<◌, slice_index, entry, slot_entry}
use Rattle.crn_tab.proofs.row.put_spread.Given as goal

abbrev pub invariant-loop-k : goal.invariant-loop-k
invariant-loop-k l = (s : ℕ) → s < l.k → entry l.into s ≡ slot_entry l.n l.i l.row (slice_index l.at s)
