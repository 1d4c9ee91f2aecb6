use Rattle.crn_robust_text.proofs.TestsTrue.{valid_are_true, valid_lines_are_true}
use Rattle.crn_robust_text.proofs.laws.valid_answers_on_robustness_are_true.Goals as goal

pub returns-clause-cases : goal.returns-clause-cases
returns-clause-cases c = valid_are_true

pub returns-clause-lines : goal.returns-clause-lines
returns-clause-lines c = valid_lines_are_true
