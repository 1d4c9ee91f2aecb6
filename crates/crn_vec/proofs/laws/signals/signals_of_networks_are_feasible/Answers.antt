use Rattle.crn_vec.proofs.NetSignalLaws.{signals_feasible}
use Rattle.crn_vec.proofs.laws.signals.signals_of_networks_are_feasible.Goals as goal

pub returns : goal.returns
returns c = signals_feasible
