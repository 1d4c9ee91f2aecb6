use Rattle.crn_document.proofs.Prelude.{◌-◌}
use Rattle.crn_document.proofs.proof.+push_rows.Given as goal

abbrev pub decreases-push_rows : goal.decreases-push_rows
decreases-push_rows l = l.end - l.i
