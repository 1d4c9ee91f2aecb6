use Rattle.crn_text.proofs.CanonicalSpelled.{spells_its_network}
use Rattle.crn_text.proofs.laws.canonical_text_spells_its_network.Goals as goal

pub returns : goal.returns
returns c = spells_its_network
