use Rattle.crn_document.proofs.Prelude.{length}
use Rattle.crn_document.proofs.met.+mark_after.Given as goal

abbrev pub decreases-mark_after : goal.decreases-mark_after
decreases-mark_after l = length l.line.now
