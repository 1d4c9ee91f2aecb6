use Rattle.crn_conc.proofs.Prelude.{sym, ◌∙◌, arith, row_chosen, row_open}
use Rattle.crn_conc.proofs.kinds.asked_of_row.Goals as goal

pub returns-then-s-prefix : goal.returns-then-s-prefix
returns-then-s-prefix c = λ n lt. sym (c.asked_of_sign.ensures ∙ row_chosen n c.args.s c.args.prefix.now lt c.if-s-prefix.true)

pub returns-else-s-prefix : goal.returns-else-s-prefix
returns-else-s-prefix c = λ n lt. sym (row_open n c.args.s c.args.prefix.now lt (omega (arith, c.if-s-prefix.false)))
