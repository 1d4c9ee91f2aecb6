use Rattle.crn_cert.proofs.Prelude.{length}
use Rattle.crn_cert.proofs.share.+are_same.Given as goal

abbrev pub decreases-are_same : goal.decreases-are_same
decreases-are_same l = length l.left.now
