use Rattle.crn_tab.proofs.Prelude.{IsZeroBefore}
use Rattle.crn_tab.proofs.enter_rows.leaving.Given as goal

abbrev pub invariant-loop-k : goal.invariant-loop-k
invariant-loop-k l = IsZeroBefore l.tableau.matrix l.tableau.basis l.k l.e
