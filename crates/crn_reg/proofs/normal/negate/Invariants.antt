use Rattle.crn_reg.proofs.Prelude.{◌≡◌, ◌<◌, ◌≤◌, ℕ, length, neg_ℤ, entry}
use Rattle.crn_reg.proofs.normal.negate.Given as goal

abbrev pub invariant-loop-c : goal.invariant-loop-c
invariant-loop-c l = record {
  long : length l.items.items ≡ length l.fn.vector.list;
  done : (k : ℕ) → k < l.c → entry l.items.items k ≡ neg_ℤ (entry l.fn.vector.list k);
  rest : (k : ℕ) → l.c ≤ k → entry l.items.items k ≡ entry l.fn.vector.list k;
}
