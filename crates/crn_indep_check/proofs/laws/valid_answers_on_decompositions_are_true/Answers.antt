use Rattle.crn_indep_check.proofs.Finest.{valid_are_true}
use Rattle.crn_indep_check.proofs.laws.valid_answers_on_decompositions_are_true.Goals as goal

pub returns : goal.returns
returns c = valid_are_true
