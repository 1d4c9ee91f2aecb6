use Rattle.crn_laws.proofs.SharedClasses.{classes_are_shared}
use Rattle.crn_laws.proofs.laws.renumbered_networks_share_reversibility_and_regularity.Goals as goal

pub returns : goal.returns
returns c = classes_are_shared
