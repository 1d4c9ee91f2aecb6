use Rattle.crn_sign.proofs.Prelude.{◌+◌, drop, arith, Signed}
use Rattle.crn_sign.proofs.PlaceLaws.{all_settled, first_of, none_left, one_settled, settling_room}
use Rattle.crn_sign.proofs.place.settle_b.Goals as goal

pub settle_one_b-requires : goal.settle_one_b-requires
settle_one_b-requires g c =
    let w : Signed = g.P.SignProblem.signed c.args.problem.now in
    record { prefix = c.requires.prefix; room = settling_room w.matrix_b (w.kinds_b c.args.prefix.now) _ _ c.loop-i.invariant.place }

pub loop-i-preserved : goal.loop-i-preserved
loop-i-preserved g c =
    let w : Signed = g.P.SignProblem.signed c.args.problem.now in
    let kinds = w.kinds_b c.args.prefix.now in
    record { place = one_settled w.matrix_b kinds _ (drop (c.loop-i.i + 1) c.args.settled.now) c.loop-i.place _ c.settle_one_b.ensures (first_of w.matrix_b kinds c.args.settled.now c.loop-i.i c.loop-i.place c.loop-i-test.true c.loop-i.invariant.place) }

pub returns : goal.returns
returns g c =
    let w : Signed = g.P.SignProblem.signed c.args.problem.now in
    let kinds = w.kinds_b c.args.prefix.now in
    let h = none_left w.matrix_b kinds c.args.settled.now c.loop-i.i c.loop-i.place (omega (arith, c.loop-i-test.false)) c.loop-i.invariant.place in
    record { room = h.room; kinds_are = all_settled w.matrix_b kinds c.loop-i.place (c.requires.lawful.long_b c.args.prefix.now c.requires.prefix) h }
