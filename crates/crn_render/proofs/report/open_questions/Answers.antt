use Rattle.crn_render.proofs.Prelude.{◌≡◌, ◌<◌, length, arith, take, ◌+◌, open_count, one_if_open}
use Rattle.crn_render.proofs.Readings.{got_here, open_step, one_or_none}
use Rattle.crn_render.proofs.report.open_questions.Goals as goal

pub loop-place-preserved : goal.loop-place-preserved
loop-place-preserved c =
    let vs = c.args.verdicts.now in
    let v = c.get.result.now in
    let lt : c.loop-place.place < length vs = omega arith in
    let step : open_count (take (c.loop-place.place + 1) vs) ≡ open_count (take c.loop-place.place vs) + one_if_open v = open_step vs c.loop-place.place v lt (got_here vs c.loop-place.place v c.get.ensures) in
    (omega (arith, step, c.loop-place.invariant.0, c.open_one-count.ensures), omega (arith, one_or_none v, c.loop-place.invariant.1, c.open_one-count.ensures))
