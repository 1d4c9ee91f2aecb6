use Rattle.crn_tab.proofs.CutScans.{NoneCounts}
use Rattle.crn_tab.proofs.row_cuts.some_counts.Given as goal

abbrev pub invariant-loop-s : goal.invariant-loop-s
invariant-loop-s l = NoneCounts l.fields.matrix.now l.fields.at.now l.fields.order.now l.fields.rows.now l.row l.kinds l.s
