use Rattle.crn_conc.proofs.Prelude.{◌≡◌, ◌<◌, ◌+◌, ◌++◌, ℕ, List, false, one_if, width, minus_at, plus_at, length, take, drop, sym, ap, subst, ◌∙◌, arith, is_minus, is_plus, written, Bits, IsPut, sign_at, signs_at}
use Rattle.crn_conc.proofs.SumLaws.{IsFilling, IsLeft, filling_none, filling_step, left_none, left_step}
use Rattle.crn_conc.proofs.chosen.signs_by.Goals as goal

pub loop-k-init : goal.loop-k-init
loop-k-init c = record {
  count = omega (arith, c.in_ok-words.ensures.len, c.word_count.ensures);
  rest = left_none _ _ _ (c.in_ok-words.ensures.items_if_clones_equal (λ y e. e));
  done = λ d e. filling_none _ _ _;
}

pub put_new-requires-clause-place : goal.put_new-requires-clause-place
put_new-requires-clause-place c = omega (arith, c.deref_mut.ensures.len, ap (λ (l : List Bits). length l) c.deref_mut.ensures.value, c.loop-k.invariant.count, c.loop-k-test.true, c.cols.ensures.count, c.rows.ensures.count)

pub put_new-requires-clause-plus : goal.put_new-requires-clause-plus
put_new-requires-clause-plus c = λ none.
    let inside : c.loop-k.k < width c.args.matrix.now = omega (arith, c.loop-k-test.true, c.cols.ensures.count, c.rows.ensures.count) in
    ap (λ (l : List Bits). plus_at l c.loop-k.k) c.deref_mut.ensures.value ∙ c.loop-k.invariant.rest.plus c.loop-k.k (omega arith) inside ∙ ap one_if (sym (c.asks.ensures.plus none))

pub put_new-requires-clause-minus : goal.put_new-requires-clause-minus
put_new-requires-clause-minus c = λ none.
    let inside : c.loop-k.k < width c.args.matrix.now = omega (arith, c.loop-k-test.true, c.cols.ensures.count, c.rows.ensures.count) in
    ap (λ (l : List Bits). minus_at l c.loop-k.k) c.deref_mut.ensures.value ∙ c.loop-k.invariant.rest.minus c.loop-k.k (omega arith) inside ∙ ap one_if (sym (c.asks.ensures.minus none))

pub loop-k-preserved : goal.loop-k-preserved
loop-k-preserved c =
    let table = c.args.table.now in
    let old = c.loop-k.words in
    let new = c.put_new.new.words in
    let asked = c.bits_of_sign-asked.result in
    let put : IsPut old.items c.loop-k.k asked new = subst (λ (l : List Bits). IsPut l c.loop-k.k asked new) c.deref_mut.ensures.value c.put_new.ensures in
    let long : length new ≡ old.len = omega (arith, put.count, c.deref_mut.ensures.len, ap (λ (l : List Bits). length l) c.deref_mut.ensures.value) in
    let is : take old.len (new ++ drop (length new) old.items) ≡ new = written old.len new old.items long in
    record {
      count = ap (λ (l : List Bits). length l) is ∙ put.count ∙ c.loop-k.invariant.count;
      rest = subst (λ (l : List Bits). IsLeft (λ j. false) (λ j. false) (width c.args.matrix.now) l (c.loop-k.k + 1)) (sym is) (left_step _ _ _ old.items new c.loop-k.k asked put c.loop-k.invariant.rest);
      done = λ d e.
          let f = λ (j : ℕ). is_plus (sign_at (signs_at table j) d) in
          let g = λ (j : ℕ). is_minus (sign_at (signs_at table j) d) in
          let s = c.last_sign_at.ensures d e in
          subst (λ (l : List Bits). IsFilling f g l (c.loop-k.k + 1)) (sym is)
          (filling_step f g old.items new c.loop-k.k asked put (c.bits_of_sign-asked.ensures.plus ∙ ap is_plus s) (c.bits_of_sign-asked.ensures.minus ∙ ap is_minus s) (c.loop-k.invariant.done d e));
    }

pub returns : goal.returns
returns c = λ d e.
    let h = c.loop-k.invariant.done d e in
    record {
      count = c.loop-k.invariant.count;
      plus = λ k lt. h.plus k (omega (arith, lt, c.loop-k-test.false, c.cols.ensures.count, c.rows.ensures.count));
      minus = λ k lt. h.minus k (omega (arith, lt, c.loop-k-test.false, c.cols.ensures.count, c.rows.ensures.count));
    }
