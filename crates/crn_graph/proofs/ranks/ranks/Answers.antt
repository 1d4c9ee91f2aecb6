use Rattle.crn_graph.proofs.RankCalls.{unranked_ranks}
use Rattle.crn_graph.proofs.ranks.ranks.Goals as goal

pub explore_all-requires-clause-ranking : goal.explore_all-requires-clause-ranking
explore_all-requires-clause-ranking c =
    unranked_ranks c.args.graph.now.arcs c.args.complexes c.in_ok-ranking.ranking c.requires.inside c.in_ok-ranking.ensures
