use Rattle.crn_endo_check.proofs.Against.{feasible_decide}
use Rattle.crn_endo_check.proofs.laws.feasible_prefixes_decide_endotactic_networks.Goals as goal

pub returns : goal.returns
returns c = feasible_decide
