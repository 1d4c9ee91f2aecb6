use Rattle.crn_laws.proofs.SharedConcordance.{concordance_is_shared}
use Rattle.crn_laws.proofs.laws.renumbered_networks_share_concordance.Goals as goal

pub returns : goal.returns
returns c = concordance_is_shared
