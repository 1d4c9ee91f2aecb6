use Rattle.crn_ctree.proofs.Prelude.{◌≡◌, ℕ, ◌<◌, length, get_or, Zero, sign, width, entry, matrix_by, weights_of}
use Rattle.crn_ctree.proofs.cut.put_weights.Given as goal

abbrev pub invariant-loop-k : goal.invariant-loop-k
invariant-loop-k l =
    (length l.into ≡ width (matrix_by l.net l.system))
    × ((j : ℕ) → j < l.k → get_or l.into j Zero ≡ sign (entry (weights_of (matrix_by l.net l.system) l.u) j))
