use Rattle.crn_ctree.proofs.Prelude.{◌≡◌, ◌≤◌, ◌*◌, take, unsigned_abs, dot, column, vectors, MAX_AMOUNT, WIDE_SOLUTION}
use Rattle.crn_ctree.proofs.pair.sum_at.Given as goal

abbrev pub invariant-loop-r : goal.invariant-loop-r
invariant-loop-r l = (l.sum ≡ dot (take l.r (column (vectors l.net) l.s)) (take l.r l.weights)) × (unsigned_abs l.sum ≤ l.r * (MAX_AMOUNT * WIDE_SOLUTION))
