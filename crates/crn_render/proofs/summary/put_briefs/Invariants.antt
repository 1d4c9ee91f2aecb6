use Rattle.crn_render.proofs.Prelude.{take, WroteAll, briefs}
use Rattle.crn_render.proofs.summary.put_briefs.Given as goal

abbrev pub invariant-loop-place : goal.invariant-loop-place
invariant-loop-place g l = WroteAll (briefs (take l.place l.verdicts)) (g.K.Sink.seen l.initial.sink) (g.K.Sink.seen l.sink)
