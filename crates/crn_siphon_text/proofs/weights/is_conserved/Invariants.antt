use Rattle.crn_siphon_text.proofs.Prelude.{◌≡◌, ◌<◌, ℕ, get_or, reaction_vector, dot}
use Rattle.std.proofs.Common.{pos}
use Rattle.crn_siphon_text.proofs.weights.is_conserved.Given as goal

abbrev pub invariant-loop-r : goal.invariant-loop-r
invariant-loop-r l = (k : ℕ) → k < l.r → dot l.x (reaction_vector l.net (get_or l.net.reactions k (0, 0))) ≡ pos 0
