use Rattle.crn_graph.proofs.Prelude.{◌≡◌, ◌≤◌, ◌<◌, ℕ, length, IsRanking, place_at}
use Rattle.crn_graph.proofs.ranks.Ranking.explore_all.Given as goal

abbrev pub invariant-loop-c : goal.invariant-loop-c
invariant-loop-c l = record {
  ranking : IsRanking l.graph.arcs l.self;
  long : length l.self.rank.items ≡ l.complexes;
  none : l.self.parts ≡ 0;
  reached : (y : ℕ) → y < l.c → 1 ≤ place_at l.self y;
}
