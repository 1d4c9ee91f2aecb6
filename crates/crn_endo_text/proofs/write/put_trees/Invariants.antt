use Rattle.crn_endo_text.proofs.Prelude.{take, flat_map, WroteAll, nodes, record_lines}
use Rattle.crn_endo_text.proofs.write.put_trees.Given as goal

abbrev pub invariant-loop-r : goal.invariant-loop-r
invariant-loop-r g l = WroteAll (record_lines (flat_map nodes (take l.r l.trees))) (g.K.Sink.seen l.fn.sink) (g.K.Sink.seen l.sink)
