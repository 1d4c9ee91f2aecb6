use Rattle.crn_tab.proofs.Prelude.{◌≡◌, ◌≤◌, ◌⊎◌, width, MayTake, IsColumnOfSign, AreWrongAt, basis_of}
use Rattle.crn_tab.proofs.Scans.{ColumnRight}
use Rattle.crn_tab.proofs.wrong.scan_column.Given as goal

abbrev pub invariant-loop-i : goal.invariant-loop-i
invariant-loop-i l = record {
  low : l.from ≤ l.best;
  high : l.best ≤ l.end;
  right : ColumnRight l.fields.matrix.now l.fields.at.now l.fields.order.now l.col l.fn.sign l.kinds l.level l.from l.best l.i;
  wrong : (l.best ≡ l.end) ⊎ AreWrongAt (IsColumnOfSign l.fields.matrix.now (basis_of l.fields.matrix.now.cols l.fields.at.now) l.col l.fn.sign) MayTake l.kinds l.level (width l.fields.matrix.now) l.best;
}
