use Rattle.crn_ctree.proofs.Prelude.{length}
use Rattle.crn_ctree.proofs.spots.+spots_kind.Given as goal

abbrev pub decreases-spots_kind : goal.decreases-spots_kind
decreases-spots_kind l = length l.spots.now
