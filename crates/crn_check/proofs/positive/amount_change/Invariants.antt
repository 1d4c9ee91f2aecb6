use Rattle.crn_check.proofs.Prelude.{◌≡◌, ◌≤◌, ◌*◌, take, unsigned_abs, dot, column, vectors, MAX_AMOUNT, WIDE_SOLUTION}
use Rattle.crn_check.proofs.positive.amount_change.Given as goal

-- the sum over the reactions so far, and its bound
abbrev pub invariant-loop-r : goal.invariant-loop-r
invariant-loop-r l = (l.sum ≡ dot (take l.r l.numbers) (take l.r (column (vectors l.net) l.s)))
    × (unsigned_abs l.sum ≤ l.r * (MAX_AMOUNT * WIDE_SOLUTION))
