use Rattle.crn_graph.proofs.Prelude.{◌≡◌, ◌+◌, ◌-◌, length, first_found, zeros, IsSpreading, KeepsLabels}
use Rattle.crn_graph.proofs.search.Search.spread.Given as goal

abbrev pub invariant-loop-self : goal.invariant-loop-self
invariant-loop-self l = record {
  spreading : IsSpreading l.graph.arcs l.self;
  keeps : KeepsLabels l.label l.fn.self l.self;
  newest : l.self.newest ≡ l.label;
  start : first_found l.self ≡ l.start;
  count : l.self.found + zeros l.self.label.items ≡ zeros l.fn.self.label.items;
}

abbrev pub decreases-loop-self : goal.decreases-loop-self
decreases-loop-self l = length l.self.label.items - l.self.done
