use Rattle.crn_tab.proofs.Prelude.{[]}
use Rattle.crn_tab.proofs.Scans.{RowRight}
use Rattle.crn_tab.proofs.row_cuts.all_weigh.Given as goal

abbrev pub invariant-loop-s : goal.invariant-loop-s
invariant-loop-s l = RowRight l.fields.matrix.now l.fields.at.now l.fields.order.now l.row l.sign l.kinds [] 0 1 l.s
