use Rattle.crn_endo_text.proofs.Prelude.{words, node_forms, forms_named}
use Rattle.crn_endo_text.proofs.LinesRead.{node_forms_are}
use Rattle.crn_endo_text.proofs.lines.next_node_line.Goals as goal

pub returns-clause-step : goal.returns-clause-step
returns-clause-step g c = forms_named words _ (node_forms c.args.rows) c.next_of.result c.args.at.now c.next_of.new.at _ _ (node_forms_are c.args.rows c.free_run.result c.free_run.ensures.field) c.next_of.ensures.step
