use Rattle.crn_vec.proofs.Prelude.{◌≡◌, ◌≤◌, ◌*◌, ◌-◌, length, take, unsigned_abs, dot, MAX_AMOUNT, WIDE_SOLUTION}
use Rattle.crn_vec.proofs.skips.dot_past.Given as goal

-- the sum of the products before this place, and its bound
abbrev pub invariant-places : goal.invariant-places
invariant-places l = record {
  inside : l.k ≤ length l.a;
  is : l.sum ≡ dot (take l.k l.a) (take l.k l.b);
  small : unsigned_abs l.sum ≤ l.k * (MAX_AMOUNT * WIDE_SOLUTION);
}

abbrev pub decreases-places : goal.decreases-places
decreases-places l = length l.a - l.k
