use Rattle.crn_farkas.proofs.Prelude.{◌≡◌, ◌<◌, ◌≤◌, ℕ, ◌+ℤ◌, ◌*ℤ◌, entry, factor}
use Rattle.crn_farkas.proofs.sum.add.Given as goal

abbrev pub invariant-loop-k : goal.invariant-loop-k
invariant-loop-k l = record {
  done : (j : ℕ) → j < l.k → entry l.sum j ≡ entry l.fn.sum j +ℤ (factor l.stays *ℤ entry l.vector j);
  rest : (j : ℕ) → l.k ≤ j → entry l.sum j ≡ entry l.fn.sum j;
}
