use Rattle.crn_render.proofs.Prelude.{arith, codes, ◌<◌, length, err_from_is_err_and, WroteAll-step, WrotePrefix-step, Wrote-all, Wrote-prefix, complex_text}
use Rattle.std.specs.Prelude.{◌-◌}
use Rattle.crn_render.proofs.Texts.{mapped_step, mapped_whole, mapped_all}
use Rattle.crn_render.proofs.parts.put_walk.Goals as goal

pub loop-i-preserved : goal.loop-i-preserved
loop-i-preserved g c =
    let lt : c.loop-i.i < length c.args.walk.now = omega arith in
    WroteAll-step (mapped_step (codes "; ") (λ y. complex_text c.args.net.now (y - 1)) c.args.walk.now c.loop-i.i 0 lt) c.loop-i.invariant c.in_ok-put_complex.ensures.all

pub returns-in_err-put_complex : goal.returns-in_err-put_complex
returns-in_err-put_complex g c =
    let lt : c.loop-i.i < length c.args.walk.now = omega arith in
    let p = err_from_is_err_and c.from_residual.result c.from_residual.ensures.1 in
    Wrote-prefix p.1 (WrotePrefix-step _ (mapped_whole (codes "; ") (λ y. complex_text c.args.net.now (y - 1)) c.args.walk.now c.loop-i.i 0 lt) c.loop-i.invariant c.in_err-put_complex.ensures.prefix)

pub returns : goal.returns
returns g c = Wrote-all (rw (mapped_all (λ y. complex_text c.args.net.now (y - 1)) c.args.walk.now c.loop-i.i (omega arith)) at c.loop-i.invariant)
