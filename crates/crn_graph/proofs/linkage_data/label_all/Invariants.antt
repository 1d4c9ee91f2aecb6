use Rattle.crn_graph.proofs.Prelude.{◌≡◌, length, AreClassesTo}
use Rattle.crn_graph.proofs.linkage_data.label_all.Given as goal

abbrev pub invariant-loop-c : goal.invariant-loop-c
invariant-loop-c l = AreClassesTo l.graph.arcs l.search l.count l.c × (length l.search.label.items ≡ l.complexes)
