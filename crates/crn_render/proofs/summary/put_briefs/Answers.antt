use Rattle.crn_render.proofs.Prelude.{◌<◌, length, arith, take_all, err_from_is_err_and, WroteAll-step, WrotePrefix-step, Wrote-all, Wrote-prefix}
use Rattle.crn_render.proofs.Briefs.{briefs_step, briefs_whole}
use Rattle.crn_render.proofs.Readings.{got_here}
use Rattle.crn_render.proofs.summary.put_briefs.Goals as goal

pub loop-place-preserved : goal.loop-place-preserved
loop-place-preserved g c =
    let lt : c.loop-place.place < length c.args.verdicts.now = omega arith in
    WroteAll-step (briefs_step c.args.verdicts.now c.loop-place.place c.get.result.now lt (got_here c.args.verdicts.now c.loop-place.place c.get.result.now c.get.ensures)) c.loop-place.invariant c.in_ok-put_next_brief.ensures.all

pub returns-in_err-put_next_brief : goal.returns-in_err-put_next_brief
returns-in_err-put_next_brief g c =
    let lt : c.loop-place.place < length c.args.verdicts.now = omega arith in
    let p = err_from_is_err_and c.from_residual.result c.from_residual.ensures.1 in
    Wrote-prefix p.1 (WrotePrefix-step _ (briefs_whole c.args.verdicts.now c.loop-place.place c.get.result.now lt (got_here c.args.verdicts.now c.loop-place.place c.get.result.now c.get.ensures)) c.loop-place.invariant c.in_err-put_next_brief.ensures.prefix)

pub returns : goal.returns
returns g c = Wrote-all (rw (take_all c.loop-place.place c.args.verdicts.now (omega arith)) at c.loop-place.invariant)
