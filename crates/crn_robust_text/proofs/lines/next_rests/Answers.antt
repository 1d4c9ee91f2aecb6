use Rattle.crn_robust_text.proofs.Prelude.{words, rests_forms, forms_named}
use Rattle.crn_robust_text.proofs.LinesRead.{rests_forms_are}
use Rattle.crn_robust_text.proofs.lines.next_rests.Goals as goal

pub returns-clause-step : goal.returns-clause-step
returns-clause-step g c = forms_named words _ rests_forms c.next_of.result c.args.at.now c.next_of.new.at _ _ rests_forms_are c.next_of.ensures.step
