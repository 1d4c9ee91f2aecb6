use Rattle.crn_graph.proofs.Prelude.{◌≡◌, ◌≤◌, ◌+◌, ◌-◌, HasClosed}
use Rattle.crn_graph.proofs.ranks.Ranking.close.Given as goal

abbrev pub invariant-loop-self : goal.invariant-loop-self
invariant-loop-self l = record {
  rest : l.self ≡ record l.fn.self { parts = l.fn.self.parts - 1; count = l.fn.self.count + 1; held = l.self.held; rank = l.self.rank };
  low : l.first ≤ l.self.held;
  high : l.self.held ≤ l.fn.self.held;
  closed : HasClosed l.fn.self l.self l.self.held (l.fn.self.count + 1);
}

abbrev pub decreases-loop-self : goal.decreases-loop-self
decreases-loop-self l = l.self.held
