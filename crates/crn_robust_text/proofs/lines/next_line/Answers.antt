use Rattle.crn_robust_text.proofs.Prelude.{words, line_forms, forms_named}
use Rattle.crn_robust_text.proofs.LinesRead.{line_forms_are}
use Rattle.crn_robust_text.proofs.lines.next_line.Goals as goal

pub returns-clause-step : goal.returns-clause-step
returns-clause-step g c = forms_named words _ line_forms c.next_of.result c.args.at.now c.next_of.new.at _ _ (line_forms_are c.small_run.result c.small_run.ensures.field) c.next_of.ensures.step
