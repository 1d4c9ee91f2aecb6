use Rattle.crn_text.proofs.Prelude.{length}
use Rattle.crn_text.proofs.side_text.+noughts.Given as goal

abbrev pub decreases-noughts : goal.decreases-noughts
decreases-noughts l = length l.amounts.now
