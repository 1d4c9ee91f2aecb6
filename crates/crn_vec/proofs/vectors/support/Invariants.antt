use Rattle.crn_vec.proofs.Prelude.{◌↔◌, ◌<◌, ◌≢◌, ℕ, IsTrue, false, get_or, pos, entry}
use Rattle.crn_vec.proofs.vectors.support.Given as goal

abbrev pub invariant-loop-k : goal.invariant-loop-k
invariant-loop-k l = (j : ℕ) → j < l.k → IsTrue (get_or l.into j false) ↔ (entry l.a j ≢ pos 0)
