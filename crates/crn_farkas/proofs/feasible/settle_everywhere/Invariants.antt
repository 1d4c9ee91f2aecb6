use Rattle.crn_farkas.proofs.Prelude.{◌≡◌, length, HasPartSum}
use Rattle.crn_farkas.proofs.feasible.settle_everywhere.Given as goal

abbrev pub invariant-loop-g : goal.invariant-loop-g
invariant-loop-g l = record {
  matrix : l.tableau.matrix ≡ l.fn.tableau.matrix;
  count : length l.marks ≡ length l.fn.marks;
  sum : HasPartSum l.tableau.matrix l.kinds l.g l.marks;
}
