use Rattle.crn_render.proofs.Prelude.{◌≡◌, ◌<◌, ◌∙◌, length, get_or, codes, arith, sym, pos, signed_decimal, err_from_is_err_and, WroteAll-step, WrotePrefix-step, Wrote-all, Wrote-prefix, held, sigma}
use Rattle.crn_render.proofs.Texts.{mapped_step, mapped_whole, mapped_all}
use Rattle.crn_render.proofs.SumEntries.{sigma_count, sigma_entry}
use Rattle.crn_render.proofs.sigma.put_sigma.Goals as goal

pub loop-s-preserved : goal.loop-s-preserved
loop-s-preserved g c =
    let sums = sigma c.args.net.now c.args.weights.now in
    let lt : c.loop-s.s < length sums = omega (arith, sigma_count c.args.net.now c.args.weights.now) in
    let is : c.sum_at.result ≡ get_or sums c.loop-s.s (pos 0) = c.sum_at.ensures.value ∙ sym (sigma_entry c.args.net.now c.args.weights.now c.loop-s.s (omega arith)) in
    let wrote = rw (held c.sum_at.result c.sum_at.ensures.small, is) at c.in_ok-put_entry.ensures in
    WroteAll-step (mapped_step (codes " ") signed_decimal sums c.loop-s.s (pos 0) lt) c.loop-s.invariant wrote.all

pub returns-in_err-put_entry : goal.returns-in_err-put_entry
returns-in_err-put_entry g c =
    let sums = sigma c.args.net.now c.args.weights.now in
    let lt : c.loop-s.s < length sums = omega (arith, sigma_count c.args.net.now c.args.weights.now) in
    let is : c.sum_at.result ≡ get_or sums c.loop-s.s (pos 0) = c.sum_at.ensures.value ∙ sym (sigma_entry c.args.net.now c.args.weights.now c.loop-s.s (omega arith)) in
    let p = err_from_is_err_and c.from_residual.result c.from_residual.ensures.1 in
    let wrote = rw (held c.sum_at.result c.sum_at.ensures.small, is) at c.in_err-put_entry.ensures in
    Wrote-prefix p.1 (WrotePrefix-step _ (mapped_whole (codes " ") signed_decimal sums c.loop-s.s (pos 0) lt) c.loop-s.invariant wrote.prefix)

pub returns : goal.returns
returns g c = Wrote-all (rw (mapped_all signed_decimal (sigma c.args.net.now c.args.weights.now) c.loop-s.s (omega (arith, sigma_count c.args.net.now c.args.weights.now))) at c.loop-s.invariant)
