use Rattle.crn_render.proofs.Prelude.{take, codes, map, signed_decimal, joined, WroteAll, sigma}
use Rattle.crn_render.proofs.sigma.put_sigma.Given as goal

abbrev pub invariant-loop-s : goal.invariant-loop-s
invariant-loop-s g l = WroteAll (joined (codes " ") (take l.s (map signed_decimal (sigma l.net l.weights)))) (g.K.Sink.seen l.initial.sink) (g.K.Sink.seen l.sink)
