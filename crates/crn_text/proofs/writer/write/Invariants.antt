use Rattle.crn_text.proofs.Prelude.{take, flat_map, WroteAll, reaction_line}
use Rattle.crn_text.proofs.writer.write.Given as goal

abbrev pub invariant-loop-r : goal.invariant-loop-r
invariant-loop-r g l = WroteAll (flat_map (reaction_line l.net) (take l.r l.net.reactions)) (g.K.Sink.seen l.initial.sink) (g.K.Sink.seen l.sink)
