use Rattle.crn_endo_check.proofs.AnswersRight.{valid_endos_are_true}
use Rattle.crn_endo_check.proofs.laws.valid_answers_on_endotactic_networks_are_true.Goals as goal

pub returns : goal.returns
returns c = valid_endos_are_true
