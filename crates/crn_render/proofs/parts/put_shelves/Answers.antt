use Rattle.crn_render.proofs.Prelude.{arith, codes, ◌<◌, length, pos, err_from_is_err_and, WroteAll-step, WrotePrefix-step, Wrote-all, Wrote-prefix, shelf}
use Rattle.crn_render.proofs.Texts.{mapped_step, mapped_whole, mapped_all}
use Rattle.crn_render.proofs.parts.put_shelves.Goals as goal

pub loop-i-preserved : goal.loop-i-preserved
loop-i-preserved g c =
    let lt : c.loop-i.i < length c.args.shelves.now = omega arith in
    let wrote = rw c.shelf_name.ensures at c.in_ok-put_between.ensures in
    WroteAll-step (mapped_step (codes " ") shelf c.args.shelves.now c.loop-i.i (pos 0) lt) c.loop-i.invariant wrote.all

pub returns-in_err-put_between : goal.returns-in_err-put_between
returns-in_err-put_between g c =
    let lt : c.loop-i.i < length c.args.shelves.now = omega arith in
    let p = err_from_is_err_and c.from_residual.result c.from_residual.ensures.1 in
    let wrote = rw c.shelf_name.ensures at c.in_err-put_between.ensures in
    Wrote-prefix p.1 (WrotePrefix-step _ (mapped_whole (codes " ") shelf c.args.shelves.now c.loop-i.i (pos 0) lt) c.loop-i.invariant wrote.prefix)

pub returns : goal.returns
returns g c = Wrote-all (rw (mapped_all shelf c.args.shelves.now c.loop-i.i (omega arith)) at c.loop-i.invariant)
