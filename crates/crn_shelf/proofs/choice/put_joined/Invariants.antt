use Rattle.crn_shelf.proofs.Joins.{AreJoining}
use Rattle.crn_shelf.proofs.choice.put_joined.Given as goal

abbrev pub invariant-loop-w : goal.invariant-loop-w
invariant-loop-w l = record {
  sums : AreJoining l.above l.added l.sums l.w;
  asked : AreJoining l.above l.added l.asked l.w;
}
