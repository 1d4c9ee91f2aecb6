use Rattle.crn_check.proofs.Prelude.{◌≡◌, ◌<◌, ℕ, drop, entry, combination_at, vector_of, vectors_of}
use Rattle.std.proofs.Common.{◌*ℤ◌}
use Rattle.crn_check.proofs.combs.is_comb.Given as goal

-- the entries so far are equal
abbrev pub invariant-loop-s : goal.invariant-loop-s
invariant-loop-s l = (k : ℕ) → k < l.s → entry l.comb 0 *ℤ entry (vector_of l.net l.reaction) k ≡ combination_at (drop 1 l.comb) (vectors_of l.net l.base) k
