use Rattle.crn_sign.proofs.Prelude.{ℕ, ◌≡◌, ◌/◌, ◌%◌, ◌∙◌, inl, inr, ap, sym, subst, arith, bit_at, bit_at-zero, eq_or, Mark, mark_at, mark_in, word_at, Weighs, mark_of_multiple}
use Rattle.crn_sign.proofs.past.all_weigh.Goals as goal

pub loop-w-preserved : goal.loop-w-preserved
loop-w-preserved c = λ k lt.
    let asked = c.args.asked.now in
    let marks = c.args.marks.now in
    let stays = c.args.stays in
    elim (eq_or (k / 64) c.loop-w.w) as (λ _. Weighs (mark_at asked k) (mark_of_multiple stays (mark_at marks k))) [
      | inl e ↦
          let i = k % 64 in
          let none : c.refused.result ≡ 0 = omega arith in
          let here = c.refused.ensures i (ap (λ (n : ℕ). bit_at n i) none ∙ bit_at-zero i) in
          subst (λ (v : ℕ). Weighs (mark_in (word_at asked v) i) (mark_of_multiple stays (mark_in (word_at marks v) i))) (sym e)
          (subst (λ (m : Mark). Weighs (mark_in (word_at asked c.loop-w.w) i) m) (c.marks_of_multiple.ensures i) here)
      | inr ne ↦ c.loop-w.invariant k (omega (arith, lt, ne))
    ]
