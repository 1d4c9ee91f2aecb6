use Rattle.crn_check.proofs.Prelude.{◌≡◌, ◌≤◌, ◌*◌, take, unsigned_abs, WIDE_SOLUTION, dot, label_marks}
use Rattle.crn_check.proofs.space.class_sum.Given as goal

-- the sum over the complexes so far, and its bound
abbrev pub invariant-loop-c : goal.invariant-loop-c
invariant-loop-c l = record {
  value : l.sum ≡ dot (take l.c (label_marks l.labels l.class)) (take l.c l.numbers);
  small : unsigned_abs l.sum ≤ l.c * WIDE_SOLUTION;
}
