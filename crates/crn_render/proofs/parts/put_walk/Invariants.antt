use Rattle.crn_render.proofs.Prelude.{take, codes, map, joined, WroteAll, complex_text}
use Rattle.std.specs.Prelude.{◌-◌}
use Rattle.crn_render.proofs.parts.put_walk.Given as goal

abbrev pub invariant-loop-i : goal.invariant-loop-i
invariant-loop-i g l = WroteAll (joined (codes "; ") (take l.i (map (λ y. complex_text l.net (y - 1)) l.walk))) (g.K.Sink.seen l.initial.sink) (g.K.Sink.seen l.sink)
