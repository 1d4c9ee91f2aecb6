use Rattle.crn_check.proofs.Prelude.{◌≡◌, ◌<◌, ℕ, false, true, get_or, ◌≤ℤ◌, reaction_vector, dot}
use Rattle.std.proofs.Common.{pos, negsuc}
use Rattle.crn_check.proofs.positive.rules_out_dependence.Given as goal

-- no reaction so far adds to the weight, and the mark says whether one takes from it
abbrev pub invariant-loop-r : goal.invariant-loop-r
invariant-loop-r l = record {
  falls : (k : ℕ) → k < l.r → dot l.weights (reaction_vector l.net (get_or l.net.reactions k (0, 0))) ≤ℤ pos 0;
  some : l.lowers ≡ true → (k : ℕ) × (k < l.r) × (dot l.weights (reaction_vector l.net (get_or l.net.reactions k (0, 0))) ≤ℤ negsuc 0);
  none : l.lowers ≡ false → (k : ℕ) → k < l.r → dot l.weights (reaction_vector l.net (get_or l.net.reactions k (0, 0))) ≡ pos 0;
}
