use Rattle.crn_ctree.proofs.Prelude.{◌≡◌, ℕ, ◌<◌, length, get_or, Zero, image, sign, reaction_system, entry}
use Rattle.crn_ctree.proofs.pair.put_signs.Given as goal

abbrev pub invariant-loop-s : goal.invariant-loop-s
invariant-loop-s l = (length l.into ≡ length l.net.names) × ((j : ℕ) → j < l.s → get_or l.into j Zero ≡ sign (entry (image (reaction_system l.net) l.weights) j))
