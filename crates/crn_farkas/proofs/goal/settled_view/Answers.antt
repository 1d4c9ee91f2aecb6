use Rattle.crn_farkas.proofs.Prelude.{◌∙◌, ◌+◌, arith, length, sym, ap, width}
use Rattle.crn_farkas.proofs.Levels.{right_everywhere}
use Rattle.crn_farkas.proofs.goal.settled_view.Goals as goal

pub returns-clause-right : goal.returns-clause-right
returns-clause-right c =
    right_everywhere c.settle.new.tableau.matrix c.settle.new.tableau.basis c.settle.new.view c.args.g c.args.kinds.now c.args.levels.now (length c.args.kinds.now + length c.args.kinds.now)
    (c.requires.kinds ∙ ap width (sym c.settle.ensures.matrix)) c.requires.levels (omega arith) c.in_default.ensures.settled
