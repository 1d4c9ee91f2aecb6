use Rattle.crn_net.proofs.Prelude.{length}
use Rattle.crn_net.proofs.buckets.+mark_after.Given as goal

abbrev pub decreases-mark_after : goal.decreases-mark_after
decreases-mark_after l = length l.bytes.now
