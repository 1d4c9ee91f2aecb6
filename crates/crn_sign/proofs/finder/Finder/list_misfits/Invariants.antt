use Rattle.crn_sign.proofs.Prelude.{IsFinder}
use Rattle.crn_sign.proofs.finder.Finder.list_misfits.Given as goal

abbrev pub invariant-loop-w : goal.invariant-loop-w
invariant-loop-w l = IsFinder l.matrix l.self
