use Rattle.crn_sign.proofs.Prelude.{◌+◌, ◌-◌, ◌*◌, length}
use Rattle.crn_sign.proofs.walk.+walk.Given as goal

abbrev pub decreases-child : goal.decreases-child
decreases-child g l = 3 * ((g.P.SignProblem.signed l.problem.now).choices - length l.search.now.prefix.items)

abbrev pub decreases-split : goal.decreases-split
decreases-split g l = 3 * ((g.P.SignProblem.signed l.problem.now).choices - length l.search.now.prefix.items) + 1

abbrev pub decreases-walk : goal.decreases-walk
decreases-walk g l = 3 * ((g.P.SignProblem.signed l.problem.now).choices - length l.search.now.prefix.items) + 2
