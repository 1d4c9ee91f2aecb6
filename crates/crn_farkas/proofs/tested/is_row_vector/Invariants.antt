use Rattle.crn_farkas.proofs.Prelude.{◌≡◌, ℕ, ◌+◌, ◌<◌, [], take, slice_index_or, dot, entry}
use Rattle.crn_farkas.proofs.tested.is_row_vector.Given as goal

abbrev pub invariant-loop-i : goal.invariant-loop-i
invariant-loop-i l = (j : ℕ) → j < l.i → entry l.v (l.matrix.cols + j) ≡ dot (slice_index_or l.matrix.rows j []) (take l.matrix.cols l.v)
