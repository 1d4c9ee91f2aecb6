use Rattle.crn_vec.proofs.SignalLawful.{signals_are_steady}
use Rattle.crn_vec.proofs.laws.signals.signals_are_steady.Goals as goal

pub returns : goal.returns
returns c = signals_are_steady
