use Rattle.crn_render.proofs.Prelude.{arith, codes, ◌<◌, length, take_all, err_from_is_err_and, WroteAll-step, WrotePrefix-step, Wrote-all, Wrote-prefix, joined_step, joined_whole}
use Rattle.crn_render.proofs.report.put_names.Goals as goal

pub loop-s-preserved : goal.loop-s-preserved
loop-s-preserved g c =
    let lt : c.loop-s.s < length c.args.net.now.names = omega arith in
    let wrote = rw c.name.ensures.value at c.in_ok-put_between.ensures in
    WroteAll-step (joined_step (codes " ") c.args.net.now.names c.loop-s.s lt) c.loop-s.invariant wrote.all

pub returns-in_err-put_between : goal.returns-in_err-put_between
returns-in_err-put_between g c =
    let lt : c.loop-s.s < length c.args.net.now.names = omega arith in
    let p = err_from_is_err_and c.from_residual.result c.from_residual.ensures.1 in
    let wrote = rw c.name.ensures.value at c.in_err-put_between.ensures in
    Wrote-prefix p.1 (WrotePrefix-step _ (joined_whole (codes " ") c.args.net.now.names c.loop-s.s lt) c.loop-s.invariant wrote.prefix)

pub returns : goal.returns
returns g c = Wrote-all (rw (take_all c.loop-s.s c.args.net.now.names (omega arith)) at c.loop-s.invariant)
