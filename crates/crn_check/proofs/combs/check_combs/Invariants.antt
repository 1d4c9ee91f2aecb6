use Rattle.crn_check.proofs.Prelude.{vectors_of}
use Rattle.crn_check.proofs.Outside.{ArePassed}
use Rattle.crn_check.proofs.combs.check_combs.Given as goal

-- the combinations of the members outside the base so far pass
abbrev pub invariant-loop-r : goal.invariant-loop-r
invariant-loop-r l = ArePassed l.net (vectors_of l.net l.base) l.first l.base l.members l.combs l.r l.done
