use Rattle.crn_render.proofs.Prelude.{length}
use Rattle.crn_render.proofs.classes.+others.Given as goal

abbrev pub decreases-others : goal.decreases-others
decreases-others l = length l.labels.now
