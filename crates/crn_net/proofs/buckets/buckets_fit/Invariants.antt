use Rattle.crn_net.proofs.Prelude.{take, AreBucketSums}
use Rattle.crn_net.proofs.buckets.buckets_fit.Given as goal

abbrev pub invariant-loop-term : goal.invariant-loop-term
invariant-loop-term l = AreBucketSums l.text (take l.term-index l.side) l.size l.sums.items
