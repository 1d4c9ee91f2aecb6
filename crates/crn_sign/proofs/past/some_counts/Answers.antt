use Rattle.crn_sign.proofs.Prelude.{ℕ, ◌≡◌, ◌+◌, ◌*◌, ◌/◌, ◌%◌, sym, subst, w64, arith, bit_at, trailing_zeros, bit_at-trailing_zeros, word_of, mark_in, word_at, Counts}
use Rattle.crn_sign.proofs.past.some_counts.Goals as goal

pub returns-then-places-ne0 : goal.returns-then-places-ne0
returns-then-places-ne0 c = λ t.
    let asked = c.args.asked.now in
    let marks = c.args.marks.now in
    let weak = c.args.weak.now in
    let w = c.loop-w.w in
    let n = c.counted-places.result in
    let i = trailing_zeros w64 n in
    let bit = bit_at-trailing_zeros w64 n (omega arith) c.counted-places.type_inv in
    let k = 64 * w + i in
    let at : k / 64 ≡ w = omega (arith, bit.0) in
    let place : k % 64 ≡ i = omega (arith, bit.0) in (
      k,
      subst (λ (v : ℕ). Counts (mark_in (word_at asked v) (k % 64)) (bit_at (word_of weak v) (k % 64)) (mark_in (word_at marks v) (k % 64))) (sym at)
          (subst (λ (j : ℕ). Counts (mark_in (word_at asked w) j) (bit_at (word_of weak w) j) (mark_in (word_at marks w) j)) (sym place)
          (subst (λ (e : ℕ). Counts (mark_in (word_at asked w) i) (bit_at e i) (mark_in (word_at marks w) i)) c.word_of.ensures (c.counted-places.ensures i bit.1))),
    )
