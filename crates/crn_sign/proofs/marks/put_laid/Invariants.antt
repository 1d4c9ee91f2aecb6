use Rattle.crn_sign.proofs.Prelude.{laid}
use Rattle.crn_sign.proofs.BitLaws.{IsMade}
use Rattle.crn_sign.proofs.marks.put_laid.Given as goal

abbrev pub invariant-loop-w : goal.invariant-loop-w
invariant-loop-w l = IsMade laid l.one l.fn.marks l.marks l.w
