use Rattle.crn_document.proofs.Prelude.{length}
use Rattle.crn_document.proofs.rows.+push_parts.Given as goal

abbrev pub decreases-push_parts : goal.decreases-push_parts
decreases-push_parts l = length l.parts.now
