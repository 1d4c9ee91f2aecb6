use Rattle.crn_vec.proofs.Shelves.{shelves_feasible}
use Rattle.crn_vec.proofs.laws.signals.feasible_prefixes_decide_signals.Goals as goal

pub returns : goal.returns
returns c = shelves_feasible
