use Rattle.crn_tab.proofs.Prelude.{◌≡◌, ◌≤◌, ◌⊎◌, width, MayWeigh, IsRowOfSign, AreWrongAt, basis_of}
use Rattle.crn_tab.proofs.Scans.{RowRight}
use Rattle.crn_tab.proofs.wrong.wrong_row.Given as goal

abbrev pub invariant-loop-s : goal.invariant-loop-s
invariant-loop-s l = record {
  low : l.from ≤ l.best;
  high : l.best ≤ l.end;
  right : RowRight l.fields.matrix.now l.fields.at.now l.fields.order.now l.row l.sign l.kinds l.level l.from l.best l.s;
  wrong : (l.best ≡ l.end) ⊎ AreWrongAt (IsRowOfSign l.fields.matrix.now (basis_of l.fields.matrix.now.cols l.fields.at.now) l.row l.sign) MayWeigh l.kinds l.level (width l.fields.matrix.now) l.best;
}
