use Rattle.crn_laws.proofs.Deficiencies.{networks_have_deficiencies}
use Rattle.crn_laws.proofs.laws.networks_have_deficiencies.Goals as goal

pub returns : goal.returns
returns c = networks_have_deficiencies
