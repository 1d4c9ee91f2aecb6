use Rattle.crn_laws.proofs.SharedDependence.{dependence_is_shared}
use Rattle.crn_laws.proofs.laws.renumbered_networks_share_dependence_and_conservation.Goals as goal

pub returns : goal.returns
returns c = dependence_is_shared
