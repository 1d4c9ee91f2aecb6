use Rattle.crn_sample.proofs.Spelled.{sample_spelled}
use Rattle.crn_sample.proofs.laws.sample_texts_spell_networks.Goals as goal

pub returns : goal.returns
returns c = sample_spelled
