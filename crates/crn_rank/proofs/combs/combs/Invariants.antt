use Rattle.crn_rank.proofs.Prelude.{AllZip, IsCombOf, rows_outside}
use Rattle.crn_rank.proofs.combs.combs.Given as goal

abbrev pub invariant-loop-k : goal.invariant-loop-k
invariant-loop-k l = AllZip (IsCombOf l.tableau.matrix l.tableau.basis l.count) (rows_outside l.tableau.matrix l.tableau.basis l.k) l.combs
