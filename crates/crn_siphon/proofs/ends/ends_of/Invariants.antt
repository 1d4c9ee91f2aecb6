use Rattle.crn_siphon.proofs.Prelude.{AreEnds}
use Rattle.crn_siphon.proofs.ends.ends_of.Given as goal

abbrev pub invariant-loop-r : goal.invariant-loop-r
invariant-loop-r l = AreEnds l.net l.r l.ends.items
