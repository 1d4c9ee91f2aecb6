use Rattle.crn_graph.proofs.Prelude.{◌≡◌, ◌≤◌, length, IsRanking, KeepsPlaces, place_at, weight}
use Rattle.crn_graph.proofs.ranks.Ranking.explore.Given as goal

abbrev pub invariant-loop-self : goal.invariant-loop-self
invariant-loop-self l = record {
  ranking : IsRanking l.graph.arcs l.self;
  long : length l.self.rank.items ≡ l.graph.complexes;
  keeps : KeepsPlaces l.fn.self l.self;
  reached : 1 ≤ place_at l.self l.c;
}

abbrev pub decreases-loop-self : goal.decreases-loop-self
decreases-loop-self l = weight l.self
