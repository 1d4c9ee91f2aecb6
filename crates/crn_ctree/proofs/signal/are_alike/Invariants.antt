use Rattle.crn_ctree.proofs.Prelude.{◌≡◌, ℕ, ◌<◌, image, sign, reaction_system, entry}
use Rattle.crn_ctree.proofs.signal.are_alike.Given as goal

abbrev pub invariant-loop-s : goal.invariant-loop-s
invariant-loop-s l = (j : ℕ) → j < l.s → sign (entry l.mu j) ≡ sign (entry (image (reaction_system l.net) l.weights) j)
