use Rattle.crn_net.proofs.Prelude.{ℤ, List, statement_of, err_from_is_err_and}
use Rattle.crn_net.proofs.Building.{both_put, right_row_stops, reaction_ends}
use Rattle.crn_net.proofs.tables.build.Goals as goal

pub returns-in_err-product-clause-gives : goal.returns-in_err-product-clause-gives
returns-in_err-product-clause-gives c =
    let p = err_from_is_err_and c.from_residual-in_err-product.result c.from_residual-in_err-product.ensures.1 in
    rw (p.1, p.2)
    (right_row_stops c.args.names.now.keys c.note_sides.new.names.keys c.args.rows.now.keys c.note_row.new.rows.keys c.note_row-2.new.rows.keys c.args.reactions.now c.args.reactions.now (statement_of c.args.text.now c.args.left.now c.args.right.now) c.note_sides.new.rows c.in_err-product.field-0.0 c.in_ok-note_sides.ensures.notes c.in_ok-reactant.ensures.notes.0 c.in_err-product.ensures.notes)

pub returns-clause-gives : goal.returns-clause-gives
returns-clause-gives c =
    let s = statement_of c.args.text.now c.args.left.now c.args.right.now in
    let names = c.note_sides.new.names.keys in
    let both : List ℤ × List ℤ = c.note_sides.new.rows in
    let notes = c.in_ok-note_sides.ensures.notes in
    let put = both_put c.args.names.now.keys names c.args.rows.now.keys c.note_row.new.rows.keys c.note_row-2.new.rows.keys s both c.in_ok-reactant.reactant c.in_ok-product.product notes.1 c.in_ok-reactant.ensures.notes c.in_ok-product.ensures.notes in
    reaction_ends c.args.names.now.keys names c.args.rows.now.keys c.note_row-2.new.rows.keys c.args.reactions.now c.note.new.self s both c.in_ok-reactant.reactant c.in_ok-product.product c.note.result notes put c.note.ensures
