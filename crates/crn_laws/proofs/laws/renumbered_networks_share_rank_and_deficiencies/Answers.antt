use Rattle.crn_laws.proofs.SharedDeficiencies.{numbers_are_shared}
use Rattle.crn_laws.proofs.laws.renumbered_networks_share_rank_and_deficiencies.Goals as goal

pub returns : goal.returns
returns c = numbers_are_shared
