use Rattle.crn_farkas.proofs.Prelude.{◌≡◌, length, IsPartSum}
use Rattle.crn_farkas.proofs.targets.targets.Given as goal

abbrev pub invariant-loop-g : goal.invariant-loop-g
invariant-loop-g l = record {
  matrix : l.tableau.matrix ≡ l.fn.tableau.matrix;
  sum : IsPartSum l.tableau.matrix l.kinds l.g l.sum;
  work : length l.work ≡ length l.kinds;
}
