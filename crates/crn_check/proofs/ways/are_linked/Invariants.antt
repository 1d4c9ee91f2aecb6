use Rattle.crn_check.proofs.Prelude.{◌<◌, ℕ, IsReaction, IsBetween}
use Rattle.crn_check.proofs.ways.are_linked.Given as goal

-- no reaction so far joins the two complexes
abbrev pub invariant-loop-r : goal.invariant-loop-r
invariant-loop-r l = (q y z : ℕ) → q < l.r → IsReaction l.net.reactions q y z → IsBetween y z l.a l.b → ⊥
