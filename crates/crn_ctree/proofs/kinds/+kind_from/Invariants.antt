use Rattle.crn_ctree.proofs.Prelude.{length}
use Rattle.crn_ctree.proofs.kinds.+kind_from.Given as goal

abbrev pub decreases-kind_from : goal.decreases-kind_from
decreases-kind_from l = length l.numbers.now
