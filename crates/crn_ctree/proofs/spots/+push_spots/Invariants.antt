use Rattle.crn_ctree.proofs.Prelude.{length}
use Rattle.crn_ctree.proofs.spots.+push_spots.Given as goal

abbrev pub decreases-push_spots : goal.decreases-push_spots
decreases-push_spots l = length l.signs.now
