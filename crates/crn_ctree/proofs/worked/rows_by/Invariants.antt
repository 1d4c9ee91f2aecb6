use Rattle.crn_ctree.proofs.Prelude.{◌≡◌, take, matrix_by, rows_by}
use Rattle.crn_ctree.proofs.worked.rows_by.Given as goal

abbrev pub invariant-loop-i : goal.invariant-loop-i
invariant-loop-i l = l.made.items ≡ rows_by (matrix_by l.net l.system) (take l.i l.table)
