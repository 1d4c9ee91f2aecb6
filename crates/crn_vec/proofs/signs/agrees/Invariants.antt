use Rattle.crn_vec.proofs.Prelude.{ℕ, ◌<◌, entry, HasKind, kind_at}
use Rattle.crn_vec.proofs.signs.agrees.Given as goal

abbrev pub invariant-loop-k : goal.invariant-loop-k
invariant-loop-k l = (j : ℕ) → j < l.k → HasKind (kind_at l.kinds j) (entry l.values j)
