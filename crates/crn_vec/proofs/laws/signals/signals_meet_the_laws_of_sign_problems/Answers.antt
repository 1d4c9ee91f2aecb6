use Rattle.crn_vec.proofs.SignalLawful.{signals_are_lawful}
use Rattle.crn_vec.proofs.laws.signals.signals_meet_the_laws_of_sign_problems.Goals as goal

pub returns : goal.returns
returns c = signals_are_lawful
