use Rattle.crn_text.proofs.Prelude.{◌≡◌, ◌≤◌, ◌<◌, ◌+◌, ◌∙◌, ◌++◌, ℕ, ℤ, List, [], length, get_or, take, drop, sym, ap, subst, arith, take_all, length-drop, AllByRecursion, codes, pos, with_separator, term, terms}
use Rattle.crn_text.proofs.Texts.{read_amount, none_there, some_there, terms_same, terms_skip, terms_count, side_step, side_some, side_none}
use Rattle.crn_text.proofs.side_text.put_complex.Goals as goal

pub loop-s-preserved-then-vector-s-eq0 : goal.loop-s-preserved-then-vector-s-eq0
loop-s-preserved-then-vector-s-eq0 c =
    let v = c.vector-vector.result.now in
    let names = c.args.net.now.names in
    let s = c.loop-s.s in
    let n = c.noughts.result in
    let h = c.loop-s.invariant in
    let lt : s < length names = omega arith in
    let lt' : s < length v = omega arith in
    let none = none_there v s c.vector-vector.ensures.amounts c.if-vector-s-eq0.true in
    let back = c.split_at.ensures.back in
    let run = subst (λ (t : List ℤ). AllByRecursion (λ a. a ≡ pos 0) (take n t)) back c.noughts.ensures.noughts in
    let many : n ≤ length (drop (s + 1) v) = subst (λ (t : List ℤ). n ≤ length t) back c.noughts.ensures.many in
    let skip = terms_skip (s + 1) n names v run in
    let one = terms_same names v s lt lt' none in
    let e : s + (1 + n) ≡ s + 1 + n = omega arith in record {
      inside = omega (arith, many, length-drop (s + 1) v);
      text = rw (e, skip, one) h.text;
      shown = rw (e, skip, one) h.shown;
      few = omega (arith, h.few);
      short = omega (arith, h.short);
    }

pub loop-s-preserved : goal.loop-s-preserved
loop-s-preserved c =
    let v = c.vector-vector.result.now in
    let names = c.args.net.now.names in
    let s = c.loop-s.s in
    let h = c.loop-s.invariant in
    let lt : s < length names = omega arith in
    let lt' : s < length v = omega arith in
    let some = (some_there v s c.vector-vector.ensures.amounts c.if-vector-s-eq0.false).0 in
    let name = get_or names s [] in
    let here = with_separator (codes " + ") c.loop-s.shown (term (get_or v s (pos 0)) name) in
    let amount = rw (read_amount v s c.vector-vector.ensures.amounts) at c.put_amount-next.ensures.text in
    let block = c.put_block-end.ensures.text ∙ ap (λ (t : List ℕ). take c.put_amount-next.result c.put_amount-next.new.bytes ++ t) c.padded_name-size.ensures.name in
    let put = block ∙ amount name in
    record {
      inside = omega (arith, lt);
      text = put ∙ ap (λ (t : List ℕ). t ++ here) h.text ∙ sym (side_step names v s c.loop-s.shown lt lt' some h.shown);
      shown = omega (arith, h.shown, terms_count names v s lt lt' some);
      few = omega (arith, h.few);
      short = omega (arith, h.short, c.put_amount-next.ensures.short, c.put_block-end.ensures.end, c.padded_name-size.ensures.size);
    }

pub returns-then-shown-eq0-clause-text : goal.returns-then-shown-eq0-clause-text
returns-then-shown-eq0-clause-text c =
    let v = c.vector-vector.result.now in
    let names = c.args.net.now.names in
    let shown = rw (take_all c.loop-s.s names (omega arith), take_all c.loop-s.s v (omega arith)) at c.loop-s.invariant.shown in
    let none : length (terms names v) ≡ 0 = omega (arith, shown) in
    rw (← c.vector-vector.ensures.value, side_none names v none) c.push.ensures.text

pub returns-clause-text : goal.returns-clause-text
returns-clause-text c =
    let v = c.vector-vector.result.now in
    let names = c.args.net.now.names in
    let text = rw (take_all c.loop-s.s names (omega arith), take_all c.loop-s.s v (omega arith)) at c.loop-s.invariant.text in
    let shown = rw (take_all c.loop-s.s names (omega arith), take_all c.loop-s.s v (omega arith)) at c.loop-s.invariant.shown in
    let some : 0 < length (terms names v) = omega (arith, shown) in
    rw (← c.vector-vector.ensures.value, side_some names v some) text
