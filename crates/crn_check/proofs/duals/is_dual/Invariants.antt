use Rattle.crn_check.proofs.Prelude.{◌≡◌, ◌≢◌, ◌<◌, ℕ, [], get_or, dot, vectors_of}
use Rattle.std.proofs.Common.{pos}
use Rattle.crn_check.proofs.duals.is_dual.Given as goal

-- the products with the vectors so far are as they have to be
abbrev pub invariant-loop-j : goal.invariant-loop-j
invariant-loop-j l = record {
  own : l.i < l.j → dot l.dual (get_or (vectors_of l.net l.base) l.i []) ≢ pos 0;
  others : (k : ℕ) → k < l.j → l.i ≢ k → dot l.dual (get_or (vectors_of l.net l.base) k []) ≡ pos 0;
}
