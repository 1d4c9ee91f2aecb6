use Rattle.crn_render.proofs.Prelude.{◌≡◌, ◌≢◌, ◌<◌, ◌≤◌, ◌+◌, ℕ, List, length, get_or, take, refl, subst, sym, ◌∙◌, arith, take_all, AllByRecursion, err_from_is_err_and, get_or-drop, length-drop, WroteAll-none, WroteAll-step, WrotePrefix-step, Wrote-all, Wrote-prefix, complex_texts}
use Rattle.crn_render.proofs.ClassLines.{sides_count, members_none, members_skip, members_count, members_step, members_whole}
use Rattle.crn_render.proofs.classes.put_members.Goals as goal

pub loop-c-init : goal.loop-c-init
loop-c-init g c =
    let none = members_none c.args.class c.others-c.result c.args.labels.now (complex_texts c.args.net.now) c.others-c.ensures.others in record {
      wrote = rw none (WroteAll-none (g.K.Sink.seen c.args.sink.now));
      shown = rw none refl;
      few = omega arith;
      within = c.others-c.ensures.within;
      next = c.others-c.ensures.first;
    }

pub loop-c-preserved : goal.loop-c-preserved
loop-c-preserved g c =
    let net = c.args.net.now in
    let labels = c.args.labels.now in
    let i = c.loop-c.c in
    let n = c.others.result in
    let lt : i < length labels = omega arith in
    let lt' : i < length net.complexes = omega arith in
    let lt'' : i < length (complex_texts net) = omega (arith, sides_count net) in
    let is : get_or labels i 0 ≡ c.args.class = c.loop-c.invariant.next lt in
    let count = members_count c.args.class labels (complex_texts net) i lt lt'' is in
    let text = WroteAll-step (members_step net c.args.class labels i c.loop-c.shown lt lt' is c.loop-c.invariant.shown) c.loop-c.invariant.wrote c.in_ok-put_complex.ensures.all in
    let back = c.split_at.ensures.back in
    let others = subst (λ t. AllByRecursion (λ l. l ≢ c.args.class) (take n t)) back c.others.ensures.others in
    let most = subst (λ (t : List ℕ). n ≤ length t) back c.others.ensures.within in
    let first = subst (λ (t : List ℕ). n < length t → get_or t n 0 ≡ c.args.class) back c.others.ensures.first in
    let long = length-drop (i + 1) labels in
    let skip = members_skip c.args.class (i + 1) n labels (complex_texts net) others in
    let e : i + (1 + n) ≡ i + 1 + n = omega arith in record {
      wrote = rw (e, skip) text;
      shown = rw (e, skip) (omega (arith, c.loop-c.invariant.shown, count));
      few = omega (arith, c.loop-c.invariant.few);
      within = omega (arith, most, long);
      next = λ l. rw e (sym (get_or-drop (i + 1) labels n 0) ∙ first (omega (arith, l, long)));
    }

pub returns-in_err-put_complex : goal.returns-in_err-put_complex
returns-in_err-put_complex g c =
    let net = c.args.net.now in
    let lt : c.loop-c.c < length c.args.labels.now = omega arith in
    let lt' : c.loop-c.c < length net.complexes = omega arith in
    let is : get_or c.args.labels.now c.loop-c.c 0 ≡ c.args.class = c.loop-c.invariant.next lt in
    let p = err_from_is_err_and c.from_residual.result c.from_residual.ensures.1 in
    Wrote-prefix p.1 (WrotePrefix-step _ (members_whole net c.args.class c.args.labels.now c.loop-c.c c.loop-c.shown lt lt' is c.loop-c.invariant.shown) c.loop-c.invariant.wrote c.in_err-put_complex.ensures.prefix)

pub returns : goal.returns
returns g c =
    let wrote = rw (take_all c.loop-c.c (complex_texts c.args.net.now) (omega (arith, sides_count c.args.net.now)), take_all c.loop-c.c c.args.labels.now (omega arith)) at c.loop-c.invariant.wrote in
    Wrote-all wrote
