use Rattle.crn_siphon.proofs.Prelude.{◌≡◌, marks}
use Rattle.crn_siphon.proofs.sets.marks.Given as goal

abbrev pub invariant-loop-s : goal.invariant-loop-s
invariant-loop-s l = l.marks.list ≡ marks l.set l.s
