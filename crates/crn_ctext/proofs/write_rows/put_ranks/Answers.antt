use Rattle.crn_ctext.proofs.Prelude.{arith, take_all, err_from_is_err_and, WroteAll-step, WrotePrefix-step, Wrote-all, Wrote-prefix, flat_map_step, flat_map_whole, RankProof, rank_records, record_lines}
use Rattle.crn_ctext.proofs.Pieces.{wrote_as}
use Rattle.crn_ctext.proofs.WrittenLines.{lines_of_all, element_at}
use Rattle.crn_ctext.proofs.write_rows.put_ranks.Goals as goal

pub loop-i-preserved : goal.loop-i-preserved
loop-i-preserved g c =
    let at = element_at c.args.list.now c.loop-i.i c.row.result.now c.row.ensures in
    let wrote = rw (← at.1) at c.in_ok-put_rank.ensures in
    WroteAll-step (flat_map_step (λ (p : RankProof). record_lines (rank_records p)) c.args.list.now c.loop-i.i c.row.result.now at.0) c.loop-i.invariant wrote.all

pub returns-in_err-put_rank : goal.returns-in_err-put_rank
returns-in_err-put_rank g c =
    let p = err_from_is_err_and c.from_residual.result c.from_residual.ensures.1 in
    let at = element_at c.args.list.now c.loop-i.i c.row.result.now c.row.ensures in
    let wrote = rw (← at.1) at c.in_err-put_rank.ensures in
    wrote_as (lines_of_all rank_records c.args.list.now) (Wrote-prefix p.1 (WrotePrefix-step _ (flat_map_whole (λ (p : RankProof). record_lines (rank_records p)) c.args.list.now c.loop-i.i c.row.result.now at.0) c.loop-i.invariant wrote.prefix))

pub returns : goal.returns
returns g c = wrote_as (lines_of_all rank_records c.args.list.now) (Wrote-all (rw (take_all c.loop-i.i c.args.list.now (omega arith)) at c.loop-i.invariant))
