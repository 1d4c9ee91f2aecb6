use Rattle.crn_net.proofs.Sums.{IsSumming}
use Rattle.crn_net.proofs.side_sums.sums_lie_within.Given as goal

abbrev pub invariant-loop-share : goal.invariant-loop-share
invariant-loop-share l = IsSumming l.text l.shares l.limit l.share-index l.name l.sum
