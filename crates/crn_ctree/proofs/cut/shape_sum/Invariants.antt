use Rattle.crn_ctree.proofs.Prelude.{◌≡◌, ◌≤◌, ◌*◌, take, unsigned_abs, dot, column, shelf_matrix, MAX_AMOUNT, WIDE_SOLUTION}
use Rattle.crn_ctree.proofs.cut.shape_sum.Given as goal

abbrev pub invariant-loop-row : goal.invariant-loop-row
invariant-loop-row l = (l.sum ≡ dot (take l.row (column (shelf_matrix l.shape).rows l.j)) (take l.row l.u)) × (unsigned_abs l.sum ≤ l.row * (MAX_AMOUNT * WIDE_SOLUTION))
