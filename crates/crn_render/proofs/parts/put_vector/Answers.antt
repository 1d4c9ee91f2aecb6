use Rattle.crn_render.proofs.Prelude.{arith, codes, ◌<◌, length, pos, err_from_is_err_and, WroteAll-step, WrotePrefix-step, Wrote-all, Wrote-prefix, signed_decimal}
use Rattle.crn_render.proofs.Texts.{mapped_step, mapped_whole, mapped_all}
use Rattle.crn_render.proofs.parts.put_vector.Goals as goal

pub loop-i-preserved : goal.loop-i-preserved
loop-i-preserved g c =
    let lt : c.loop-i.i < length c.args.values.now = omega arith in
    WroteAll-step (mapped_step (codes " ") signed_decimal c.args.values.now c.loop-i.i (pos 0) lt) c.loop-i.invariant c.in_ok-put_entry.ensures.all

pub returns-in_err-put_entry : goal.returns-in_err-put_entry
returns-in_err-put_entry g c =
    let lt : c.loop-i.i < length c.args.values.now = omega arith in
    let p = err_from_is_err_and c.from_residual.result c.from_residual.ensures.1 in
    Wrote-prefix p.1 (WrotePrefix-step _ (mapped_whole (codes " ") signed_decimal c.args.values.now c.loop-i.i (pos 0) lt) c.loop-i.invariant c.in_err-put_entry.ensures.prefix)

pub returns : goal.returns
returns g c = Wrote-all (rw (mapped_all signed_decimal c.args.values.now c.loop-i.i (omega arith)) at c.loop-i.invariant)
