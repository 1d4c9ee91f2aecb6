use Rattle.crn_render.proofs.Prelude.{take, codes, map, joined, WroteAll, decimal}
use Rattle.crn_render.proofs.parts.put_numbers.Given as goal

abbrev pub invariant-loop-i : goal.invariant-loop-i
invariant-loop-i g l = WroteAll (joined (codes " ") (take l.i (map decimal l.numbers))) (g.K.Sink.seen l.initial.sink) (g.K.Sink.seen l.sink)
