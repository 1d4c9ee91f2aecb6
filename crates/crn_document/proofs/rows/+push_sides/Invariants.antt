use Rattle.crn_document.proofs.Prelude.{length}
use Rattle.crn_document.proofs.rows.+push_sides.Given as goal

abbrev pub decreases-push_sides : goal.decreases-push_sides
decreases-push_sides l = length l.pairs.now
