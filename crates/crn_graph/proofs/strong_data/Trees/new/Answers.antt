use Rattle.crn_graph.proofs.Prelude.{◌∙◌, subst, AreClassesTo}
use Rattle.crn_graph.proofs.strong_data.Trees.new.Goals as goal

pub label_all-count-requires-clause-returning : goal.label_all-count-requires-clause-returning
label_all-count-requires-clause-returning c = c.requires.returning c.in_ok-graph.graph.arcs c.in_ok-graph.ensures.arcs

pub returns : goal.returns
returns c =
    let arcs = c.in_ok-graph.graph.arcs in
    let found = c.label_all-count.new.search in
    let e = c.label_all-count.ensures in
    let count = c.complexes-2.ensures.count in
    record {
      long = e.long ∙ count;
      classes = (arcs, c.in_ok-graph.ensures.arcs, subst (AreClassesTo arcs found c.label_all-count.result) count e.classes);
    }
