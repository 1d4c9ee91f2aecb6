use Rattle.crn_ctree.proofs.Prelude.{◌≡◌, ℕ, ◌<◌, length, get_or, Zero, sign, entry}
use Rattle.crn_ctree.proofs.signal.put_signs.Given as goal

abbrev pub invariant-loop-k : goal.invariant-loop-k
invariant-loop-k l = (length l.into ≡ length l.numbers) × ((j : ℕ) → j < l.k → get_or l.into j Zero ≡ sign (entry l.numbers j))
