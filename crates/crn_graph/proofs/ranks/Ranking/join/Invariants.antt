use Rattle.crn_graph.proofs.Prelude.{◌≡◌, HasMerged}
use Rattle.crn_graph.proofs.ranks.Ranking.join.Given as goal

abbrev pub invariant-loop-self : goal.invariant-loop-self
invariant-loop-self l = record {
  rest : l.self ≡ record l.fn.self { parts = l.self.parts };
  merged : HasMerged l.place l.fn.self l.self.parts;
}

abbrev pub decreases-loop-self : goal.decreases-loop-self
decreases-loop-self l = l.self.parts
