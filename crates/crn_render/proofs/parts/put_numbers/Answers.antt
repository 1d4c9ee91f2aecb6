use Rattle.crn_render.proofs.Prelude.{arith, codes, ◌<◌, length, err_from_is_err_and, WroteAll-step, WrotePrefix-step, Wrote-all, Wrote-prefix, decimal}
use Rattle.crn_render.proofs.Texts.{mapped_step, mapped_whole, mapped_all}
use Rattle.crn_render.proofs.parts.put_numbers.Goals as goal

pub loop-i-preserved : goal.loop-i-preserved
loop-i-preserved g c =
    let lt : c.loop-i.i < length c.args.numbers.now = omega arith in
    WroteAll-step (mapped_step (codes " ") decimal c.args.numbers.now c.loop-i.i 0 lt) c.loop-i.invariant c.in_ok-put_item.ensures.all

pub returns-in_err-put_item : goal.returns-in_err-put_item
returns-in_err-put_item g c =
    let lt : c.loop-i.i < length c.args.numbers.now = omega arith in
    let p = err_from_is_err_and c.from_residual.result c.from_residual.ensures.1 in
    Wrote-prefix p.1 (WrotePrefix-step _ (mapped_whole (codes " ") decimal c.args.numbers.now c.loop-i.i 0 lt) c.loop-i.invariant c.in_err-put_item.ensures.prefix)

pub returns : goal.returns
returns g c = Wrote-all (rw (mapped_all decimal c.args.numbers.now c.loop-i.i (omega arith)) at c.loop-i.invariant)
