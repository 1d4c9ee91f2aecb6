use Rattle.crn_document.proofs.Prelude.{◌-◌, length}
use Rattle.crn_document.proofs.proof.+push_marks.Given as goal

abbrev pub decreases-push_marks : goal.decreases-push_marks
decreases-push_marks l = length l.rows.now - l.i
