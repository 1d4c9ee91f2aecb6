use Rattle.crn_farkas.proofs.Witnesses.{view_first}
use Rattle.crn_farkas.proofs.goal.first_view.Goals as goal

pub returns-then-is_basic : goal.returns-then-is_basic
returns-then-is_basic c = view_first c.args.tableau.now.matrix c.args.tableau.now.basis c.args.g c.names_rows.ensures (c.is_basic.ensures.0 c.if-is_basic.true)
