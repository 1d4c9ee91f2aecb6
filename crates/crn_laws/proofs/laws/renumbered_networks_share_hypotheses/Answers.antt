use Rattle.crn_laws.proofs.SharedDeficiencies.{hypotheses_are_shared}
use Rattle.crn_laws.proofs.laws.renumbered_networks_share_hypotheses.Goals as goal

pub returns : goal.returns
returns c = hypotheses_are_shared
