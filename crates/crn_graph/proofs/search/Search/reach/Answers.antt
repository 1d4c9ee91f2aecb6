use Rattle.crn_graph.proofs.SearchLaws.{reach_of}
use Rattle.crn_graph.proofs.search.Search.reach.Goals as goal

pub returns-clause-reach : goal.returns-clause-reach
returns-clause-reach c =
    let e = c.spread.ensures in
    reach_of c.args.graph.now.arcs _ c.clear.new.self c.spread.new.self c.args.start c.clear.ensures e.spreading e.all e.keeps e.newest e.start e.count
