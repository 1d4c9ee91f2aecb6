use Rattle.crn_farkas.proofs.Prelude.{◌≡◌, length}
use Rattle.crn_farkas.proofs.columns.first_shown.Given as goal

abbrev pub invariant-loop-round : goal.invariant-loop-round
invariant-loop-round l = record {
  matrix : l.tableau.matrix ≡ l.fn.tableau.matrix;
  sum : length l.sum ≡ length l.kinds;
  work : length l.work ≡ length l.kinds;
}
