use Rattle.crn_graph.proofs.Prelude.{◌≡◌, found_at, IsSpreading, GoesOn}
use Rattle.crn_graph.proofs.SearchLaws.{IsPast}
use Rattle.crn_graph.proofs.search.Search.follow.Given as goal

abbrev pub invariant-loop-chain : goal.invariant-loop-chain
invariant-loop-chain l = record {
  spreading : IsSpreading l.graph.arcs l.self;
  on : GoesOn l.fn.self l.self;
  done : l.self.done ≡ l.fn.self.done;
  past : IsPast l.graph.arcs l.self (found_at l.fn.self l.fn.self.done) l.chain;
}

abbrev pub decreases-loop-chain : goal.decreases-loop-chain
decreases-loop-chain l = l.chain
