use Rattle.crn_cert.proofs.Prelude.{length}
use Rattle.crn_cert.proofs.share.+mark_after.Given as goal

abbrev pub decreases-mark_after : goal.decreases-mark_after
decreases-mark_after l = length l.list.now
