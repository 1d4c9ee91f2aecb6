use Rattle.crn_graph.proofs.Prelude.{◌≡◌, ◌<◌, ℕ, length, get_or, IsNext}
use Rattle.crn_graph.proofs.ranks.chains.Given as goal

abbrev pub invariant-loop-y : goal.invariant-loop-y
invariant-loop-y l = record {
  long : length l.rest.items ≡ l.complexes;
  chains : (y : ℕ) → y < l.y → IsNext l.graph.arcs y (length l.graph.arcs) (get_or l.rest.items y 0);
}
