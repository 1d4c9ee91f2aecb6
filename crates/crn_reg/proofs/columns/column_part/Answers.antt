use Rattle.crn_reg.proofs.Named.{part_of}
use Rattle.crn_reg.proofs.columns.column_part.Goals as goal
use Rattle.crn_reg.proofs.Prelude.{wide_column}

pub returns-in-Err-clause-stop : goal.returns-in-Err-clause-stop
returns-in-Err-clause-stop c =
    wide_column c.args.tableau.now.matrix c.args.tableau.now.basis c.args.c c.in-Err.wide.index c.in_ok-basis_after.field-0.list c.names_rows.ensures c.requires.member
    c.in-Err.ensures.index c.in-Err.ensures.wide c.in_ok-basis_after.ensures

pub returns-clause-part : goal.returns-clause-part
returns-clause-part c =
    part_of c.args.tableau.now.matrix c.args.tableau.now.basis c.args.c c.put_column.new.into c.in_ok-at_columns.field-0.list c.names_rows.ensures c.requires.entered c.requires.column c.requires.member
    c.in_default.ensures.named c.in_default.ensures.small c.in_ok-at_columns.ensures
