use Rattle.crn_text.proofs.Judged.{judged}
use Rattle.crn_text.proofs.laws.each_text_is_judged.Goals as goal

pub returns : goal.returns
returns c = judged
