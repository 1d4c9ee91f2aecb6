use Rattle.crn_render.proofs.OneLine.{true_verdicts_have_one_line}
use Rattle.crn_render.proofs.laws.true_verdicts_have_one_line.Goals as goal

pub returns : goal.returns
returns c = true_verdicts_have_one_line
