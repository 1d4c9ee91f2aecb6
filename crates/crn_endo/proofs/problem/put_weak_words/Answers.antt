use Rattle.crn_endo.proofs.Prelude.{◌<◌, refl, sym, subst, ◌∙◌, arith, Mat, width}
use Rattle.crn_endo.proofs.WeakWords.{firm_more, weak_more}
use Rattle.crn_endo.proofs.problem.put_weak_words.Goals as goal
use Rattle.crn_endo.proofs.problem.put_weak_words.Goals.{then-is_weak, else-is_weak}

pub loop-k-init : goal.loop-k-init
loop-k-init c = record {
  count = refl;
  done = λ p j lt. absurd (omega (arith, lt));
  rest = λ j le. c.requires.none j;
}

pub is_weak-requires : goal.is_weak-requires
is_weak-requires c =
    let lt : c.loop-k.k < width c.args.matrix.now = omega (arith, c.loop-k-test.true, c.cols.ensures.count, c.rows.ensures.count) in
    subst (λ (a : Mat). c.loop-k.k < width a) c.requires.matrix lt

pub put_weak-requires : goal.put_weak-requires
put_weak-requires c = omega (arith, c.loop-k.invariant.count, c.requires.count, c.loop-k-test.true, c.cols.ensures.count, c.rows.ensures.count)

pub loop-k-preserved : goal.loop-k-preserved
loop-k-preserved c =
    let s = c.args.given.now in
    let k = c.loop-k.k in
    let h = c.loop-k.invariant in
    let old = c.loop-k.words in
    elim c.if-is_weak.branch [
      | then-is_weak w ↦ rw w.words-is (record {
        count = w.put_weak.ensures.count ∙ h.count;
        done = weak_more s.net s.reaction k old w.put_weak.new.words h.done w.put_weak.ensures.here w.put_weak.ensures.others (c.is_weak.ensures.weak w.if-is_weak.true);
        rest = λ j le. w.put_weak.ensures.others j (λ e. omega (arith, e, le)) ∙ h.rest j (omega (arith, le));
      })
      | else-is_weak w ↦ rw w.words-is (record {
        count = h.count;
        done = firm_more s.net s.reaction k old h.done (h.rest k (omega arith)) (c.is_weak.ensures.firm w.if-is_weak.false);
        rest = λ j le. h.rest j (omega (arith, le));
      })
    ]

pub returns : goal.returns
returns c = record {
  count = c.loop-k.invariant.count;
  shown = λ p k lt.
      let inside : k < width c.args.matrix.now = subst (λ (a : Mat). k < width a) (sym c.requires.matrix) lt in
      c.loop-k.invariant.done p k (omega (arith, inside, c.loop-k-test.false, c.cols.ensures.count, c.rows.ensures.count));
}
