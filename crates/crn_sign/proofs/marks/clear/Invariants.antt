use Rattle.crn_sign.proofs.Prelude.{Zero}
use Rattle.crn_sign.proofs.BitLaws.{IsMade}
use Rattle.crn_sign.proofs.marks.clear.Given as goal

abbrev pub invariant-loop-w : goal.invariant-loop-w
invariant-loop-w l = IsMade (λ m o. Zero) l.fn.marks l.fn.marks l.marks l.w
