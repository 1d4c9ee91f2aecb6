use Rattle.crn_text.proofs.Unique.{spelling_unique}
use Rattle.crn_text.proofs.laws.spelling_is_unique.Goals as goal

pub returns : goal.returns
returns c = spelling_unique
