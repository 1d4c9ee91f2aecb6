use Rattle.crn_check.proofs.Prelude.{◌≡◌, ◌≤◌, ◌<◌, ◌+◌, ◌*◌, ◌∙◌, ℕ, suc, inl, inr, length, refl, sym, ap₂, subst, arith, to_z, of_z, ℤ, pos, ◌+ℤ◌, ◌*ℤ◌, unsigned_abs, w128, fits_signed_from_abs, get_or-set_at, get_or-set_other, length-set, entry, MAX_AMOUNT, WIDE_SOLUTION, held, lt_or, sum_within, within_at, zero_adds, within_more, within_set}
use Rattle.crn_check.proofs.combs.add_multiple.Goals as goal

pub places-init : goal.places-init
places-init c =
    let sums = c.args.sums.now in
    let skip = c.requires.skips.each 0 (omega arith) in
    record {
      long = c.told-sums;
      inside = skip.inside;
      raised = λ s lt. zero_adds (entry sums s) c.args.number.now (entry c.args.vector.now s) (skip.zero s (omega arith) lt);
      same = λ s le. refl;
      within = within_more (c.args.most * (MAX_AMOUNT * WIDE_SOLUTION)) (suc c.args.most * (MAX_AMOUNT * WIDE_SOLUTION)) sums (omega arith) c.requires.sums;
    }

pub times-requires-clause-y : goal.times-requires-clause-y
times-requires-clause-y c = within_at MAX_AMOUNT c.places.k c.args.vector.now c.requires.vector

pub overflow_add-sums : goal.overflow_add-sums
overflow_add-sums c =
    let k = c.places.k in
    let y = entry c.places.sums k in
    let p = c.times.result in
    let most = c.args.most * (MAX_AMOUNT * WIDE_SOLUTION) in
    let b : unsigned_abs y ≤ most = subst (λ (x : ℤ). unsigned_abs x ≤ most) (sym (c.places.invariant.same k (omega arith))) (within_at most k c.args.sums.now c.requires.sums) in
    let bound : unsigned_abs (y +ℤ p) ≤ most + MAX_AMOUNT * WIDE_SOLUTION = sum_within y p most (MAX_AMOUNT * WIDE_SOLUTION) b c.times.ensures.small in
    rw (held y (omega (arith, b, c.requires.few)), held p (omega (arith, c.times.ensures.small))) (fits_signed_from_abs w128 (y +ℤ p) (omega (arith, bound, c.requires.few)))

pub places-preserved : goal.places-preserved
places-preserved c =
    let k = c.places.k in
    let old = c.places.sums in
    let sums = c.args.sums.now in
    let v = c.args.vector.now in
    let number = c.args.number.now in
    let inv = c.places.invariant in
    let y = entry old k in
    let p = c.times.result in
    let most = c.args.most * (MAX_AMOUNT * WIDE_SOLUTION) in
    let lt : k < length v = c.places-test.true in
    let inside : k < length old = omega (arith, inv.long, lt, c.requires.width) in
    let skip = c.requires.skips.each (k + 1) (omega (arith, lt)) in
    let b : unsigned_abs y ≤ most = subst (λ (x : ℤ). unsigned_abs x ≤ most) (sym (inv.same k (omega arith))) (within_at most k sums c.requires.sums) in
    let bound : unsigned_abs (y +ℤ p) ≤ most + MAX_AMOUNT * WIDE_SOLUTION = sum_within y p most (MAX_AMOUNT * WIDE_SOLUTION) b c.times.ensures.small in
    let x = to_z w128 (of_z w128 (to_z w128 (of_z w128 y) +ℤ to_z w128 (of_z w128 p))) in
    let is : x ≡ y +ℤ p = rw (held y (omega (arith, b, c.requires.few)), held p (omega (arith, c.times.ensures.small))) (held (y +ℤ p) (omega (arith, bound, c.requires.few))) in
    let here : y +ℤ p ≡ entry sums k +ℤ (number *ℤ entry v k) = ap₂ (λ (a d : ℤ). a +ℤ d) (inv.same k (omega arith)) c.times.ensures.value in
    record {
      long = length-set old k x ∙ inv.long;
      inside = skip.inside;
      raised = λ s before. elim (lt_or s k) [
        | inl less ↦ get_or-set_other old k s x (pos 0) (λ e. absurd (omega (arith, e, less))) ∙ inv.raised s less
        | inr le ↦ elim (lt_or k s) [
          | inl more ↦ get_or-set_other old k s x (pos 0) (λ e. absurd (omega (arith, e, more))) ∙ inv.same s le ∙ zero_adds (entry sums s) number (entry v s) (skip.zero s (omega (arith, more)) before)
          | inr most_k ↦
              let e : s ≡ k = omega (arith, le, most_k) in
              get_or-set_at old k s x (pos 0) e inside ∙ is ∙ subst (λ (j : ℕ). y +ℤ p ≡ entry sums j +ℤ (number *ℤ entry v j)) (sym e) here
        ]
      ];
      same = λ s from.
          let more : k < s = omega (arith, from, skip.after) in
          get_or-set_other old k s x (pos 0) (λ e. absurd (omega (arith, e, more))) ∙ inv.same s (omega (arith, more));
      within = within_set (suc c.args.most * (MAX_AMOUNT * WIDE_SOLUTION)) k old x inv.within (subst (λ (z : ℤ). unsigned_abs z ≤ suc c.args.most * (MAX_AMOUNT * WIDE_SOLUTION)) (sym is) (omega (arith, bound)));
    }
