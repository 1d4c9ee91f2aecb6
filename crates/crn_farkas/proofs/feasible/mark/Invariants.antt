use Rattle.crn_farkas.proofs.Prelude.{◌≡◌, ◌≢◌, ◌⊎◌, ℕ, List, length, slice_index_or, entry, kind_at, Column, IsSeen}
use Rattle.std.proofs.Common.{ℤ, pos, IsTrue, false}
use Rattle.crn_farkas.proofs.feasible.mark.Given as goal

abbrev pub invariant-loop-c : goal.invariant-loop-c
invariant-loop-c l = record {
  count : length l.marks ≡ length l.fn.marks;
  marked : (y : List ℤ) → IsSeen l.tableau.matrix l.tableau.basis (Column l.b) l.g (kind_at l.kinds l.g) y → (k : ℕ) → IsTrue (slice_index_or l.marks k false) → IsTrue (slice_index_or l.fn.marks k false) ⊎ (entry y k ≢ pos 0);
}
