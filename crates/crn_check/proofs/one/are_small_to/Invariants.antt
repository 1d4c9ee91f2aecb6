use Rattle.crn_check.proofs.Prelude.{AreSmallTo}
use Rattle.crn_check.proofs.one.are_small_to.Given as goal

abbrev pub invariant-loop-j : goal.invariant-loop-j
invariant-loop-j l = AreSmallTo l.classes l.j
