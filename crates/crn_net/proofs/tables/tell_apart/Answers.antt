use Rattle.crn_net.proofs.Prelude.{◌∙◌, sym, row_decides}
use Rattle.crn_net.proofs.tables.tell_apart.Goals as goal

pub returns-then-eq : goal.returns-then-eq
returns-then-eq c = (row_decides c.args.rows.now.1 c.args.rows.now.0).0 (sym c.eq.ensures ∙ c.if-eq.true)

pub returns : goal.returns
returns c = λ e. let same = (row_decides c.args.rows.now.1 c.args.rows.now.0).1 e in let is = c.eq.ensures in let other = c.if-eq.false in absurd cc
