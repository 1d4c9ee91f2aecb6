use Rattle.crn_siphon.proofs.Prelude.{◌≡◌, ◌<◌, ℕ, get_or, dot, reaction_vector}
use Rattle.std.proofs.Common.{pos}
use Rattle.crn_siphon.proofs.trial.is_conserved.Given as goal

abbrev pub invariant-loop-r : goal.invariant-loop-r
invariant-loop-r l = (k : ℕ) → k < l.r → dot l.weights (reaction_vector l.net (get_or l.net.reactions k (0, 0))) ≡ pos 0
