use Rattle.crn_net.proofs.Prelude.{statement_of}
use Rattle.crn_net.proofs.Building.{apart_noted}
use Rattle.crn_net.proofs.tables.note_sides.Goals as goal

pub returns-in-Ok-clause-notes : goal.returns-in-Ok-clause-notes
returns-in-Ok-clause-notes c = apart_noted c.args.names.now.keys c.note_both.new.names.keys (statement_of c.args.text.now c.args.left.now c.args.right.now) c.note_both.new.rows c.tell_apart.result c.in-Ok.ensures.notes c.tell_apart.ensures
