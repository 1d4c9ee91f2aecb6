use Rattle.crn_graph.proofs.Prelude.{◌≡◌, length, IsChained}
use Rattle.crn_graph.proofs.graph.Graph.of.Given as goal

abbrev pub invariant-loop-place : goal.invariant-loop-place
invariant-loop-place l = IsChained l.arcs.items l.place l.first.items l.next.items × (length l.first.items ≡ l.complexes)
