use Rattle.crn_ctext.proofs.Prelude.{take, WroteAll, side_records, record_lines}
use Rattle.crn_ctext.proofs.write_rows.put_sides.Given as goal

abbrev pub invariant-loop-i : goal.invariant-loop-i
invariant-loop-i g l = WroteAll (record_lines (side_records l.pairs (take l.i l.rows))) (g.K.Sink.seen l.initial.sink) (g.K.Sink.seen l.sink)
