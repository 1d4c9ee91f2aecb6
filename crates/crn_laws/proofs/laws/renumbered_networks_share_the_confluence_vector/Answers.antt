use Rattle.crn_laws.proofs.SharedConfluence.{confluence_is_shared}
use Rattle.crn_laws.proofs.laws.renumbered_networks_share_the_confluence_vector.Goals as goal

pub returns : goal.returns
returns c = confluence_is_shared
