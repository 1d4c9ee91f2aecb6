use Rattle.crn_conc.proofs.Prelude.{settled_below, true, refl, ◌≡◌, ◌<◌, ◌∙◌, ℕ, drop, sym, ap, arith, one_if, width, all_zero, signs_at}
use Rattle.crn_conc.proofs.SumLaws.{filling_none, filling_step, left_step, put_nothing, settled_apart}
use Rattle.crn_conc.proofs.chosen.settle.Goals as goal

pub loop-k-init : goal.loop-k-init
loop-k-init c = record {
  count = c.requires.count;
  rest = record { plus = λ j le lt. c.requires.plus j lt; minus = λ j le lt. c.requires.minus j lt };
  done = filling_none _ _ _;
}

pub put_asked-requires : goal.put_asked-requires
put_asked-requires c = omega (arith, c.loop-k.invariant.count, c.loop-k-test.true, c.cols.ensures.count, c.rows.ensures.count)

pub loop-k-preserved : goal.loop-k-preserved
loop-k-preserved c =
    let f = λ (j : ℕ). all_zero (drop c.args.choices (signs_at c.args.table.now j)) in
    let below = settled_below c.args.table.now c.args.choices in
    let put = c.put_asked.ensures in
    let is : true ≡ f c.loop-k.k = sym (c.settling.ensures.after c.args.choices (omega (arith, c.if-choices-settling.false))) in
    record {
      count = put.count ∙ c.loop-k.invariant.count;
      rest = left_step below below _ _ _ _ _ put c.loop-k.invariant.rest;
      done = filling_step f f _ _ _ _ put is is c.loop-k.invariant.done;
    }

pub loop-k-preserved-then-choices-settling : goal.loop-k-preserved-then-choices-settling
loop-k-preserved-then-choices-settling c =
    let f = λ (j : ℕ). all_zero (drop c.args.choices (signs_at c.args.table.now j)) in
    let below = settled_below c.args.table.now c.args.choices in
    let h = c.loop-k.invariant in
    let inside : c.loop-k.k < width c.args.matrix.now = omega (arith, c.loop-k-test.true, c.cols.ensures.count, c.rows.ensures.count) in
    let same : below c.loop-k.k ≡ f c.loop-k.k = settled_apart c.args.table.now c.loop-k.k c.args.choices c.settling.result c.settling.ensures (λ e. omega (arith, c.if-choices-settling.true, e)) in
    let put = put_nothing c.loop-k.words c.loop-k.k (record { plus = f c.loop-k.k; minus = f c.loop-k.k })
    (h.rest.plus c.loop-k.k (omega arith) inside ∙ ap one_if same) (h.rest.minus c.loop-k.k (omega arith) inside ∙ ap one_if same) in
    record {
      count = h.count;
      rest = left_step below below _ _ _ _ _ put h.rest;
      done = filling_step f f _ _ _ _ put refl refl h.done;
    }

pub returns : goal.returns
returns c =
    let h = c.loop-k.invariant.done in
    record {
      count = c.loop-k.invariant.count;
      plus = λ k lt. h.plus k (omega (arith, lt, c.loop-k-test.false, c.cols.ensures.count, c.rows.ensures.count));
      minus = λ k lt. h.minus k (omega (arith, lt, c.loop-k-test.false, c.cols.ensures.count, c.rows.ensures.count));
    }
