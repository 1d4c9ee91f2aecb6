use Rattle.crn_render.proofs.Prelude.{take, codes, map, joined, WroteAll, shelf}
use Rattle.crn_render.proofs.parts.put_shelves.Given as goal

abbrev pub invariant-loop-i : goal.invariant-loop-i
invariant-loop-i g l = WroteAll (joined (codes " ") (take l.i (map shelf l.shelves))) (g.K.Sink.seen l.initial.sink) (g.K.Sink.seen l.sink)
