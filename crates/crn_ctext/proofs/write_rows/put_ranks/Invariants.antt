use Rattle.crn_ctext.proofs.Prelude.{take, flat_map, WroteAll, RankProof, rank_records, record_lines}
use Rattle.crn_ctext.proofs.write_rows.put_ranks.Given as goal

abbrev pub invariant-loop-i : goal.invariant-loop-i
invariant-loop-i g l = WroteAll (flat_map (λ (p : RankProof). record_lines (rank_records p)) (take l.i l.list)) (g.K.Sink.seen l.initial.sink) (g.K.Sink.seen l.sink)
