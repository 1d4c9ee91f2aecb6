use Rattle.crn_vec.proofs.FewPairs.{networks_are_lawful}
use Rattle.crn_vec.proofs.laws.signals.networks_are_lawful.Goals as goal

pub returns : goal.returns
returns c = networks_are_lawful
