use Rattle.crn_check.proofs.ClassRanks.{AreRanks}
use Rattle.crn_check.proofs.deficiency.check_classes.Given as goal

-- the ranks of the classes so far pass
abbrev pub invariant-loop-k : goal.invariant-loop-k
invariant-loop-k l = AreRanks l.net l.facts.earlier l.list l.part l.k
