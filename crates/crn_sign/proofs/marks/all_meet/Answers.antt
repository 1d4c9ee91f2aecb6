use Rattle.crn_sign.proofs.Prelude.{ℕ, ◌≡◌, ◌/◌, ◌%◌, ◌∙◌, inl, inr, ap, sym, subst, arith, bit_at, bit_at-zero, eq_or, weakened, word_of, mark_at, mark_in, word_at, Suits, kind_of_mark, kind_there}
use Rattle.crn_sign.proofs.marks.all_meet.Goals as goal

pub loop-w-preserved : goal.loop-w-preserved
loop-w-preserved c = λ k lt.
    let weak = c.args.weak.now in
    let asked = c.args.asked.now in
    let marks = c.args.marks.now in
    let i = k % 64 in
    elim (eq_or (k / 64) c.loop-w.w) as (λ _. Suits (kind_there weak asked k) (mark_at marks k)) [
      | inl e ↦
          let none : c.misfit_places.result ≡ 0 = omega arith in
          subst (λ (v : ℕ). Suits (weakened (kind_of_mark (mark_in (word_at asked v) i)) (bit_at (word_of weak v) i)) (mark_in (word_at marks v) i)) (sym e)
          (subst (λ (n : ℕ). Suits (weakened (kind_of_mark (mark_in (word_at asked c.loop-w.w) i)) (bit_at n i)) (mark_in (word_at marks c.loop-w.w) i)) c.word_of.ensures
          (c.misfit_places.ensures i (ap (λ (n : ℕ). bit_at n i) none ∙ bit_at-zero i)))
      | inr ne ↦ c.loop-w.invariant k (omega (arith, lt, ne))
    ]
