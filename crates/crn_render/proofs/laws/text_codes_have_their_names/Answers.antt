use Rattle.crn_render.proofs.FaultNames.{text_codes_have_their_names}
use Rattle.crn_render.proofs.laws.text_codes_have_their_names.Goals as goal

pub returns : goal.returns
returns c = text_codes_have_their_names
