use Rattle.crn_laws.proofs.Dependence.{weakly_reversible_are_dependent}
use Rattle.crn_laws.proofs.laws.weakly_reversible_networks_are_positively_dependent.Goals as goal

pub returns : goal.returns
returns c = weakly_reversible_are_dependent
