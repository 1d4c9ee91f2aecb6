use Rattle.crn_robust_text.proofs.Prelude.{[], ◌∷◌, end_form, words, forms_named}
use Rattle.crn_robust_text.proofs.LinesRead.{last_forms_are}
use Rattle.crn_robust_text.proofs.lines.next_last.Goals as goal

pub returns-clause-step : goal.returns-clause-step
returns-clause-step g c = forms_named words _ (end_form ∷ []) c.next_of.result c.args.at.now c.next_of.new.at _ _ last_forms_are c.next_of.ensures.step
