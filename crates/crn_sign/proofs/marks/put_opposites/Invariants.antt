use Rattle.crn_sign.proofs.Prelude.{negative}
use Rattle.crn_sign.proofs.BitLaws.{IsMade}
use Rattle.crn_sign.proofs.marks.put_opposites.Given as goal

abbrev pub invariant-loop-w : goal.invariant-loop-w
invariant-loop-w l = IsMade (λ m o. negative m) l.one l.fn.into l.into l.w
