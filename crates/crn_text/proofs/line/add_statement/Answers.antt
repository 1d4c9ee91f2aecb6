use Rattle.crn_text.proofs.Prelude.{err_from_is_err_and, statement_of}
use Rattle.crn_text.proofs.Statements.{grows_fine, statement_gives}
use Rattle.crn_text.proofs.line.add_statement.Goals as goal

pub returns-in_err-add : goal.returns-in_err-add
returns-in_err-add c = λ before grown.
    let p = err_from_is_err_and c.from_residual.result c.from_residual.ensures.1 in
    statement_gives before (statement_of c.args.body.now c.args.left.now c.args.right.now) c.args.builder.now c.add.new.self c.in_err-add.field-0.0 p.0 c.from_residual.result grown c.in_err-add.ensures p.2 p.1

pub returns : goal.returns
returns c = λ before grown. grows_fine before (statement_of c.args.body.now c.args.left.now c.args.right.now) c.args.builder.now c.add.new.self grown c.in_ok-add.ensures
