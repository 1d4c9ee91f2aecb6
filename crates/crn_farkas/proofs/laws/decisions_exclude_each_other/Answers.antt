use Rattle.crn_farkas.proofs.Prelude.{cuts_exclude_solutions}
use Rattle.crn_farkas.proofs.laws.decisions_exclude_each_other.Goals as goal

pub returns : goal.returns
returns c = λ a kinds x u solution cut. cuts_exclude_solutions a kinds u.list x.list cut.cut (solution.v, solution.solves)
