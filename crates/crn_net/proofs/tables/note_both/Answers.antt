use Rattle.crn_net.proofs.Prelude.{◌++◌, map, sym, subst, bytes_eq, err_from_is_err_and, bytes_eq-Decides, AreDistinct, side_of, statement_of, firsts_distinct}
use Rattle.crn_net.proofs.Building.{left_stops, right_ends}
use Rattle.crn_net.proofs.tables.note_both.Goals as goal

pub returns-in_err-note_side-clause-notes : goal.returns-in_err-note_side-clause-notes
returns-in_err-note_side-clause-notes c =
    let p = err_from_is_err_and c.from_residual.result c.from_residual.ensures.1 in
    rw (p.1, p.2) (left_stops c.args.names.now.keys c.note_side.new.names.keys (statement_of c.args.text.now c.args.left.now c.args.right.now) c.note_side.new.row (c.note_side.new.row, c.args.rows.now.1) c.in_err-note_side.field-0.0 c.in_err-note_side.ensures.notes)

pub note_side-requires-2-clause-distinct : goal.note_side-requires-2-clause-distinct
note_side-requires-2-clause-distinct c = subst AreDistinct (sym c.in_ok-note_side.ensures.notes.0) (firsts_distinct bytes_eq bytes_eq-Decides (c.args.names.now.keys ++ map (λ t. t.0) (side_of c.args.text.now c.args.left.now)))

pub returns-clause-notes : goal.returns-clause-notes
returns-clause-notes c =
    right_ends c.args.names.now.keys c.note_side.new.names.keys c.note_side-2.new.names.keys (statement_of c.args.text.now c.args.left.now c.args.right.now) c.note_side.new.row c.note_side-2.new.row c.note_side-2.result
    c.in_ok-note_side.ensures.notes c.note_side-2.ensures.notes c.note_side-2.ensures.same
