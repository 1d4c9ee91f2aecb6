use Rattle.crn_ctext.proofs.Prelude.{take, flat_map, WroteAll, line}
use Rattle.crn_ctext.proofs.write_record.put_rows.Given as goal

abbrev pub invariant-loop-i : goal.invariant-loop-i
invariant-loop-i g l = WroteAll (flat_map (line l.text) (take l.i l.rows)) (g.K.Sink.seen l.initial.sink) (g.K.Sink.seen l.sink)
