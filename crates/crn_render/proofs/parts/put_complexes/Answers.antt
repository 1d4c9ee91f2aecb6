use Rattle.crn_render.proofs.Prelude.{arith, codes, ◌<◌, length, err_from_is_err_and, WroteAll-step, WrotePrefix-step, Wrote-all, Wrote-prefix, side}
use Rattle.std.specs.Prelude.{[]}
use Rattle.crn_render.proofs.Texts.{mapped_step, mapped_whole, mapped_all}
use Rattle.crn_render.proofs.parts.put_complexes.Goals as goal

pub loop-c-preserved : goal.loop-c-preserved
loop-c-preserved g c =
    let lt : c.loop-c.c < length c.args.net.now.complexes = omega arith in
    WroteAll-step (mapped_step (codes "; ") (side c.args.net.now.names) c.args.net.now.complexes c.loop-c.c [] lt) c.loop-c.invariant c.in_ok-put_complex.ensures.all

pub returns-in_err-put_complex : goal.returns-in_err-put_complex
returns-in_err-put_complex g c =
    let lt : c.loop-c.c < length c.args.net.now.complexes = omega arith in
    let p = err_from_is_err_and c.from_residual.result c.from_residual.ensures.1 in
    Wrote-prefix p.1 (WrotePrefix-step _ (mapped_whole (codes "; ") (side c.args.net.now.names) c.args.net.now.complexes c.loop-c.c [] lt) c.loop-c.invariant c.in_err-put_complex.ensures.prefix)

pub returns : goal.returns
returns g c = Wrote-all (rw (mapped_all (side c.args.net.now.names) c.args.net.now.complexes c.loop-c.c (omega arith)) at c.loop-c.invariant)
