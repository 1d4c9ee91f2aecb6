use Rattle.crn_render.proofs.Prelude.{WroteAll, strong_line, lines_from}
use Rattle.crn_render.proofs.classes.put_strong_classes.Given as goal

abbrev pub invariant-loop-k : goal.invariant-loop-k
invariant-loop-k g l = WroteAll (lines_from (strong_line l.net l.labels l.exits) 1 l.k) (g.K.Sink.seen l.initial.sink) (g.K.Sink.seen l.sink)
