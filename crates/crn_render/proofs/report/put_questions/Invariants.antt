use Rattle.crn_render.proofs.Prelude.{take, flat_map, zip, WroteAll, built, question_lines}
use Rattle.crn_render.proofs.report.put_questions.Given as goal

abbrev pub invariant-loop-place : goal.invariant-loop-place
invariant-loop-place g l = WroteAll (flat_map (question_lines l.net) (take l.place (zip built l.verdicts))) (g.K.Sink.seen l.initial.sink) (g.K.Sink.seen l.sink)
