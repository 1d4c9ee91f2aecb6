use Rattle.std.proofs.Common.{◌≡◌}
use Rattle.crn_tests.proofs.tableaus.all_show.Given as goal

abbrev pub invariant-loop-step : goal.invariant-loop-step
invariant-loop-step g l = l.t.matrix ≡ l.initial.t.matrix
