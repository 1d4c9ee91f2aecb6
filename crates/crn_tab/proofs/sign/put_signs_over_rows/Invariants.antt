use Rattle.crn_tab.proofs.Prelude.{◌≡◌, ◌+◌, length, width}
use Rattle.crn_tab.proofs.ColumnSigns.{AreColumnSigns}
use Rattle.crn_tab.proofs.sign.put_signs_over_rows.Given as goal

abbrev pub invariant-loop-i : goal.invariant-loop-i
invariant-loop-i l = record {
  count : length l.signs ≡ width l.fields.matrix.now;
  seen : AreColumnSigns l.fields.matrix.now l.fields.at.now l.col l.fn.sign (l.fields.matrix.now.cols + l.i) l.signs;
}
