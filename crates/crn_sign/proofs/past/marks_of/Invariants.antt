use Rattle.crn_sign.proofs.PastLaws.{AreMarkedTo}
use Rattle.crn_sign.proofs.past.marks_of.Given as goal

abbrev pub invariant-loop-c : goal.invariant-loop-c
invariant-loop-c l = AreMarkedTo l.matrix l.signs l.c l.marks.items
