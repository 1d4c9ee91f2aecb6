use Rattle.crn_conc.proofs.Prelude.{◌≡◌, take, plain_table}
use Rattle.crn_conc.proofs.influence.concordance_table.Given as goal

abbrev pub invariant-loop-r : goal.invariant-loop-r
invariant-loop-r l = l.rows.items ≡ take l.r (plain_table l.net)
