use Rattle.crn_tab.proofs.Prelude.{◌≡◌, AreEnteredBelow}
use Rattle.crn_tab.proofs.enter_rows.enter_from.Given as goal

abbrev pub invariant-loop-e : goal.invariant-loop-e
invariant-loop-e l = record {
  matrix : l.tableau.matrix ≡ l.initial.tableau.matrix;
  entered : AreEnteredBelow l.tableau.matrix l.tableau.basis l.first l.e;
}
