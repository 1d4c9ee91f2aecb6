use Rattle.crn_graph.proofs.Prelude.{depth_at, IsWalkBack}
use Rattle.crn_graph.proofs.pair.walk.Given as goal

abbrev pub invariant-back : goal.invariant-back
invariant-back l = IsWalkBack l.net l.search l.from l.c l.steps.list

abbrev pub decreases-back : goal.decreases-back
decreases-back l = depth_at l.search l.c
