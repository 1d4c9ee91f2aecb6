use Rattle.crn_text.proofs.Prelude.{length}
use Rattle.crn_text.proofs.side_text.+last_noughts.Given as goal

abbrev pub decreases-last_noughts : goal.decreases-last_noughts
decreases-last_noughts l = length l.amounts.now
