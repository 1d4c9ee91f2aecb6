use Rattle.crn_check.proofs.Prelude.{vectors_of}
use Rattle.crn_check.proofs.RankParts.{AreDuals}
use Rattle.crn_check.proofs.duals.check_duals.Given as goal

-- the duals so far pass
abbrev pub invariant-loop-i : goal.invariant-loop-i
invariant-loop-i l = AreDuals (vectors_of l.net l.base) l.first l.duals l.i
