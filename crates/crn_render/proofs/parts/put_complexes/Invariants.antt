use Rattle.crn_render.proofs.Prelude.{take, codes, map, joined, WroteAll, side}
use Rattle.crn_render.proofs.parts.put_complexes.Given as goal

abbrev pub invariant-loop-c : goal.invariant-loop-c
invariant-loop-c g l = WroteAll (joined (codes "; ") (take l.c (map (side l.net.names) l.net.complexes))) (g.K.Sink.seen l.initial.sink) (g.K.Sink.seen l.sink)
