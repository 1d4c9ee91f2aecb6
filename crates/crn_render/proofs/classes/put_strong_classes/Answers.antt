use Rattle.crn_render.proofs.Prelude.{err_from_is_err_and, WroteAll-step, WrotePrefix-step, Wrote-prefix, strong_line}
use Rattle.crn_render.proofs.ClassLines.{lines_step, lines_whole}
use Rattle.crn_render.proofs.classes.put_strong_classes.Goals as goal

pub loop-k-preserved : goal.loop-k-preserved
loop-k-preserved g c = WroteAll-step (lines_step (strong_line c.args.net.now c.args.labels.now c.args.exits.now) c.loop-k.k) c.loop-k.invariant c.in_ok-put_strong_class.ensures.all

pub returns-in_err-put_strong_class : goal.returns-in_err-put_strong_class
returns-in_err-put_strong_class g c =
    let p = err_from_is_err_and c.from_residual.result c.from_residual.ensures.1 in
    let f = lines_whole (strong_line c.args.net.now c.args.labels.now c.args.exits.now) c.loop-k.k c.args.count c.loop-k-test.true in
    Wrote-prefix p.1 (WrotePrefix-step f.0 f.1 c.loop-k.invariant c.in_err-put_strong_class.ensures.prefix)
