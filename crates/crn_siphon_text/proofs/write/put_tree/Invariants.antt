use Rattle.crn_siphon_text.proofs.Prelude.{take, record_lines, WroteAll, weights_of}
use Rattle.crn_siphon_text.proofs.Written.{records_of}
use Rattle.crn_siphon_text.proofs.write.put_tree.Given as goal

abbrev pub invariant-loop-node : goal.invariant-loop-node
invariant-loop-node g l = WroteAll (record_lines (records_of (weights_of l.laws) (take l.node-index l.nodes))) (g.K.Sink.seen l.fn.sink) (g.K.Sink.seen l.sink)
