use Rattle.crn_conc.proofs.Prelude.{◌≡◌, take, strong_table}
use Rattle.crn_conc.proofs.influence.strong_table.Given as goal

abbrev pub invariant-loop-r : goal.invariant-loop-r
invariant-loop-r l = l.rows.items ≡ take l.r (strong_table l.net)
