use Rattle.crn_ctext.proofs.Prelude.{length}
use Rattle.crn_ctext.proofs.part.+are_runs.Given as goal

abbrev pub decreases-are_runs : goal.decreases-are_runs
decreases-are_runs l = length l.runs.now
