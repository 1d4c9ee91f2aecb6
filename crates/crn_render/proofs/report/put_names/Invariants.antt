use Rattle.crn_render.proofs.Prelude.{take, codes, joined, WroteAll}
use Rattle.crn_render.proofs.report.put_names.Given as goal

abbrev pub invariant-loop-s : goal.invariant-loop-s
invariant-loop-s g l = WroteAll (joined (codes " ") (take l.s l.net.names)) (g.K.Sink.seen l.initial.sink) (g.K.Sink.seen l.sink)
