use Rattle.crn_document.proofs.Prelude.{length}
use Rattle.crn_document.proofs.rows.+next_rows.Given as goal

abbrev pub decreases-next_rows : goal.decreases-next_rows
decreases-next_rows g l = length l.rows.now
