use Rattle.crn_graph.proofs.Prelude.{length, AreInside}
use Rattle.crn_graph.proofs.StrongLaws.{AreEqualTo}
use Rattle.crn_graph.proofs.graph.Graph.within.Given as goal

abbrev pub invariant-loop-arc : goal.invariant-loop-arc
invariant-loop-arc l = record {
  equal : AreEqualTo l.rank l.arc-items l.arc-index l.within.items;
  inside : AreInside (length l.net.complexes) l.within.items;
}
