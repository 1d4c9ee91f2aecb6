use Rattle.crn_rank.proofs.Prelude.{◌≡◌, length, AllZip, width, IsDualOf, rows_inside}
use Rattle.crn_rank.proofs.duals.duals.Given as goal

abbrev pub invariant-loop-k : goal.invariant-loop-k
invariant-loop-k l = record {
  work : length l.work ≡ width l.tableau.matrix;
  duals : AllZip (IsDualOf l.tableau.matrix l.tableau.basis) (rows_inside l.tableau.matrix l.tableau.basis l.k) l.duals;
}
