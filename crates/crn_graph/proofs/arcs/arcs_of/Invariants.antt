use Rattle.crn_graph.proofs.Prelude.{◌≤◌, length, AreInside, AreArcsTo}
use Rattle.crn_graph.proofs.arcs.arcs_of.Given as goal

abbrev pub invariant-loop-r : goal.invariant-loop-r
invariant-loop-r l = record {
  steps : AreArcsTo l.net l.way l.r l.arcs.items;
  some : 1 ≤ l.r → 1 ≤ length l.net.complexes;
  inside : AreInside (length l.net.complexes) l.arcs.items;
}
