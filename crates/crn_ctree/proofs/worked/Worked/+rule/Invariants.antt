use Rattle.crn_ctree.proofs.Prelude.{length}
use Rattle.crn_ctree.proofs.worked.Worked.+rule.Given as goal

abbrev pub decreases-rule : goal.decreases-rule
decreases-rule l = length l.spots.now
