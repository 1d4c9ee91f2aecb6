use Rattle.crn_reg.proofs.Prelude.{HasNoColumn}
use Rattle.crn_reg.proofs.columns.free_column.Given as goal

abbrev pub invariant-loop-c : goal.invariant-loop-c
invariant-loop-c l = HasNoColumn l.tableau.basis l.from l.c
