use Rattle.crn_tab.proofs.Prelude.{◌<◌, WIDE_ENTRY, IsScale}
use Rattle.crn_tab.proofs.column.scale.Given as goal

abbrev pub invariant-loop-i : goal.invariant-loop-i
invariant-loop-i l = record {
  is : IsScale l.n l.c l.rows l.i l.l;
  small : l.l < WIDE_ENTRY;
}
