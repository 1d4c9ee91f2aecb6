use Rattle.crn_ctree.proofs.Prelude.{ℕ, ◌<◌, get_or, ◌-ℤ◌, None, complex_at, top_kind, HasKind, dot}
use Rattle.crn_ctree.proofs.signal.are_on_shelves.Given as goal

abbrev pub invariant-loop-c : goal.invariant-loop-c
invariant-loop-c l = (j : ℕ) → j < l.c → HasKind (top_kind l.shelves (get_or l.shape.tops j None)) (dot (complex_at l.shape j) l.mu -ℤ l.level)
