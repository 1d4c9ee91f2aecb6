use Rattle.crn_tab.proofs.Prelude.{ap, arith, width}
use Rattle.crn_tab.proofs.enter_rows.enter_from.Goals as goal

pub enter_one-requires-clause-inside : goal.enter_one-requires-clause-inside
enter_one-requires-clause-inside c = omega (arith, c.loop-e-test.true, c.requires, ap width c.loop-e.invariant.matrix)

pub returns-clause-entered : goal.returns-clause-entered
returns-clause-entered c = λ e low lt. c.loop-e.invariant.entered e low (omega (arith, lt, c.requires, ap width c.loop-e.invariant.matrix))
