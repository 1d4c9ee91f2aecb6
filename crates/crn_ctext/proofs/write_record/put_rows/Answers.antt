use Rattle.crn_ctext.proofs.Prelude.{arith, [], take_all, err_from_is_err_and, WroteAll-step, WrotePrefix-step, Wrote-all, Wrote-prefix, flat_map_step, flat_map_whole, line}
use Rattle.crn_ctext.proofs.write_record.put_rows.Goals as goal

pub loop-i-preserved : goal.loop-i-preserved
loop-i-preserved g c =
    let wrote = rw c.row.ensures at c.in_ok-put_free.ensures in
    WroteAll-step (flat_map_step (line c.args.text.now) c.args.rows.now c.loop-i.i [] (omega arith)) c.loop-i.invariant wrote.all

pub returns-in_err-put_free : goal.returns-in_err-put_free
returns-in_err-put_free g c =
    let p = err_from_is_err_and c.from_residual.result c.from_residual.ensures.1 in
    let wrote = rw c.row.ensures at c.in_err-put_free.ensures in
    Wrote-prefix p.1 (WrotePrefix-step _ (flat_map_whole (line c.args.text.now) c.args.rows.now c.loop-i.i [] (omega arith)) c.loop-i.invariant wrote.prefix)

pub returns : goal.returns
returns g c = Wrote-all (rw (take_all c.loop-i.i c.args.rows.now (omega arith)) at c.loop-i.invariant)
