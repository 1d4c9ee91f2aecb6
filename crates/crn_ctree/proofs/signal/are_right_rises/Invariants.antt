use Rattle.crn_ctree.proofs.Prelude.{ℕ, ◌<◌, get_or, pair_kind, HasKind, no_pair}
use Rattle.crn_ctree.proofs.SignalLaws.{change}
use Rattle.crn_ctree.proofs.signal.are_right_rises.Given as goal

abbrev pub invariant-loop-i : goal.invariant-loop-i
invariant-loop-i l = (j : ℕ) → j < l.i → HasKind (pair_kind l.shelves (get_or l.shape.pairs j no_pair)) (change l.shape l.mu (get_or l.shape.pairs j no_pair))
