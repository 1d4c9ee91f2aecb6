use Rattle.crn_sign.proofs.Prelude.{united}
use Rattle.crn_sign.proofs.BitLaws.{IsMade}
use Rattle.crn_sign.proofs.marks.put_united.Given as goal

abbrev pub invariant-loop-w : goal.invariant-loop-w
invariant-loop-w l = IsMade united l.one l.fn.marks l.marks l.w
