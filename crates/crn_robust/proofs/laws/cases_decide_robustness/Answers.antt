use Rattle.crn_robust.proofs.Cases.{cases_decide_robustness}
use Rattle.crn_robust.proofs.laws.cases_decide_robustness.Goals as goal

pub returns : goal.returns
returns c = cases_decide_robustness
