use Rattle.crn_graph.proofs.Prelude.{arith}
use Rattle.crn_graph.proofs.LinkTests.{AreAllClasses, count_is, labels_from, labels_numbered, labels_even, labels_right, links_forest, links_trees, links_return}
use Rattle.crn_graph.proofs.linkage_data.linkage.Goals as goal

pub label_all-count-requires-clause-returning : goal.label_all-count-requires-clause-returning
label_all-count-requires-clause-returning c = links_return c.args.net.now c.in_ok-graph.graph.arcs c.in_ok-graph.ensures.arcs

pub returns : goal.returns
returns c =
    let net = c.args.net.now in
    let arcs = c.in_ok-graph.graph.arcs in
    let s = c.label_all-count.new.search in
    let count = c.label_all-count.result in
    let n = c.complexes-2.result in
    let all : AreAllClasses net arcs s count n = record {
      links = c.in_ok-graph.ensures.arcs;
      n_is = c.complexes-2.ensures.count;
      some = omega (arith, c.complexes-2.ensures.count, c.in_ok-graph.ensures.some, c.in_ok-graph.ensures.complexes);
      places = c.label_all-count.ensures.long;
      classes = c.label_all-count.ensures.classes;
    } in
    let label = c.from_vec.ensures.list in
    let up = c.from_vec-2.ensures.list in
    let depth = c.from_vec-3.ensures.list in
    record {
      count = count_is net arcs s count n all;
      labels = rw label (labels_from net arcs s count n all);
      right = rw label (labels_right net arcs s count n all);
      numbered = rw label (labels_numbered net arcs s count n all);
      even = rw label (labels_even net arcs s count n all);
      forest = rw (up, depth) (links_forest net arcs s count n all);
      trees = rw (label, up, depth) (links_trees net arcs s count n all);
    }
