use Rattle.crn_tab.proofs.WideProducts.{times_divides}
use Rattle.crn_tab.proofs.low.is_multiple.Goals as goal

pub returns-in-Some : goal.returns-in-Some
returns-in-Some c = λ _. times_divides c.in-Some._quotient c.args.by.now c.args.x.now c.in-Some.ensures
