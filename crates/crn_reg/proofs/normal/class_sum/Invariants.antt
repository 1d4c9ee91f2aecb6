use Rattle.crn_reg.proofs.Prelude.{◌≡◌, ◌≤◌, ◌*◌, take, unsigned_abs, WIDE_ENTRY, dot, label_marks}
use Rattle.crn_reg.proofs.normal.class_sum.Given as goal

abbrev pub invariant-loop-c : goal.invariant-loop-c
invariant-loop-c l = record {
  value : l.sum ≡ dot (take l.c (label_marks l.labels l.class)) (take l.c l.vector);
  small : unsigned_abs l.sum ≤ l.c * WIDE_ENTRY;
}
