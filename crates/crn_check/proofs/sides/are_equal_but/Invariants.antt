use Rattle.crn_check.proofs.Prelude.{◌≡◌, ◌<◌, ◌⊎◌, ℕ, entry, IsReaction, IsBetween}
use Rattle.crn_check.proofs.sides.are_equal_but.Given as goal

-- each reaction so far joins complexes of equal marks, but for those between y and z
abbrev pub invariant-loop-r : goal.invariant-loop-r
invariant-loop-r l = (q a b : ℕ) → q < l.r → IsReaction l.net.reactions q a b → IsBetween l.y l.z a b ⊎ (entry l.marks a ≡ entry l.marks b)
