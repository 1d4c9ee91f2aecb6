-- An exchange of two coordinates: their slots change places, and each row goes over to its new one.
use Rattle.crn_tab.proofs.Prelude.{◌≡◌, ◌≢◌, ℕ, zero, suc, ◌+◌, ◌<◌, inl, inr, List, length, sym, ap, ◌∙◌, arith, ℤ, pos, negsuc, ◌-ℤ◌, ◌*ℤ◌, ◌≤ℤ◌, slice_index, ints, length-put, Mat, entry, width, pos_pos, past_end, lt_or, eq_or, IsNewRow, put, slot_entry, spread, ArePlaced, IsRowAt}
use lib.IntN.{*ℤ-zero, zero-*ℤ}
use Rattle.crn_tab.proofs.NewRows.{put_same, put_other}
use Rattle.crn_tab.proofs.Places.{slot_basic, slot_own, slot_none, length-spread, entry-spread}
use Rattle.crn_tab.proofs.Spaces.{dual_combined}
use Rattle.crn_tab.proofs.Primitive.{none_left}

-- what the slots are after the exchange of the coordinates at slots c and s
pub record Swapped (c s : ℕ) (at order at' : List ℕ) : Type 0 where
  pub long : length at' ≡ length at
  pub leaves : slice_index at' (slice_index order c) ≡ s
  pub enters : slice_index at' (slice_index order s) ≡ c
  pub others : (k : ℕ) → k ≢ slice_index order c → k ≢ slice_index order s → slice_index at' k ≡ slice_index at k

-- slot by slot: what the new row has is the difference of the old row and of the lead
pub record Differs (n i r c : ℕ) (old lead z : List ℤ) (p q t : ℤ) : Type 0 where
  pub leaves : pos 0 ≡ (p *ℤ entry old c) -ℤ (q *ℤ entry lead n)
  pub enters : entry z c *ℤ t ≡ (p *ℤ pos 0) -ℤ (q *ℤ entry lead c)
  pub basic : (s : ℕ) → s < n → s ≢ c → entry z s *ℤ t ≡ (p *ℤ entry old s) -ℤ (q *ℤ entry lead s)
  pub own : entry z n *ℤ t ≡ (p *ℤ entry old n) -ℤ (q *ℤ pos 0)

pub differs : (n i r c : ℕ) (old lead z : List ℤ) (h : IsNewRow n c old lead z) → c < n → length old ≡ n + 1 → length lead ≡ n + 1 → Differs n i r c old lead z h.p h.q h.is.t
differs n i r c old lead z h lt old_long lead_long =
    let p = h.p in
    let q = h.q in
    let c_in : c < length old = omega arith in
    let n_in : n < length lead = omega arith in
    record {
      leaves = omega (arith, ints, h.gone);
      enters = h.is.is c ∙ ap (λ (x : ℤ). (p *ℤ x) -ℤ (q *ℤ entry (put lead n (pos 0)) c)) (put_same old c (pos 0) c_in)
          ∙ ap (λ (x : ℤ). (p *ℤ pos 0) -ℤ (q *ℤ x)) (put_other lead n c (pos 0) n_in (λ e. omega arith));
      basic = λ s s_lt ne. h.is.is s ∙ ap (λ (x : ℤ). (p *ℤ x) -ℤ (q *ℤ entry (put lead n (pos 0)) s)) (put_other old c s (pos 0) c_in ne)
          ∙ ap (λ (x : ℤ). (p *ℤ entry old s) -ℤ (q *ℤ x)) (put_other lead n s (pos 0) n_in (λ e. omega arith));
      own = h.is.is n ∙ ap (λ (x : ℤ). (p *ℤ x) -ℤ (q *ℤ entry (put lead n (pos 0)) n)) (put_other old c n (pos 0) c_in (λ e. omega arith))
          ∙ ap (λ (x : ℤ). (p *ℤ entry old n) -ℤ (q *ℤ x)) (put_same lead n (pos 0) n_in);
    }

along : (p q t z w v z' w' v' : ℤ) → z ≡ z' → w ≡ w' → v ≡ v' → z' *ℤ t ≡ (p *ℤ w') -ℤ (q *ℤ v') → z *ℤ t ≡ (p *ℤ w) -ℤ (q *ℤ v)
along p q t z w v z' w' v' e f g h =
    omega (arith, ints, h, ap (λ (s : ℤ). s *ℤ t) e, ap (λ (s : ℤ). p *ℤ s) f, ap (λ (s : ℤ). q *ℤ s) g)

-- the same by coordinates
pub linked : (n count i r c : ℕ) (at order at' : List ℕ) (old lead z : List ℤ) (p q t : ℤ)
    → ArePlaced n count at order → Swapped c (n + r) at order at' → c < n → n + r < count → i ≢ r → Differs n i r c old lead z p q t
    → (k : ℕ) → entry (spread n i z at') k *ℤ t ≡ (p *ℤ entry (spread n i old at) k) -ℤ (q *ℤ entry (spread n r lead at') k)
linked n count i r c at order at' old lead z p q t place swap c_lt r_lt ne d k =
    let W = entry (spread n i z at') k in
    let X = entry (spread n i old at) k in
    let Y = entry (spread n r lead at') k in
    elim (lt_or k count) [
      | inr past ↦ none_left p q t W X Y
          (past_end (spread n i z at') k (omega (arith, length-spread n i z at', swap.long, place.at_long)))
          (past_end (spread n i old at) k (omega (arith, length-spread n i old at, place.at_long)))
          (past_end (spread n r lead at') k (omega (arith, length-spread n r lead at', swap.long, place.at_long)))
      | inl lt ↦
          let w_is : W ≡ slot_entry n i z (slice_index at' k) = entry-spread n i z at' k (omega (arith, swap.long, place.at_long)) in
          let x_is : X ≡ slot_entry n i old (slice_index at k) = entry-spread n i old at k (omega (arith, place.at_long)) in
          let y_is : Y ≡ slot_entry n r lead (slice_index at' k) = entry-spread n r lead at' k (omega (arith, swap.long, place.at_long)) in
          elim (eq_or k (slice_index order c)) [
            | inl is_b ↦
                let now : slice_index at' k ≡ n + r = ap (slice_index at') is_b ∙ swap.leaves in
                let was : slice_index at k ≡ c = ap (slice_index at) is_b ∙ place.back c (omega arith) in
                along p q t W X Y (pos 0) (entry old c) (entry lead n)
                (w_is ∙ slot_none n i z (slice_index at' k) (omega (arith, now)) (λ e. ne (omega (arith, e, now))))
                (x_is ∙ slot_basic n i old (slice_index at k) (omega (arith, was)) ∙ ap (λ s. entry old s) was)
                (y_is ∙ slot_own n r lead (slice_index at' k) now)
                (zero-*ℤ t ∙ d.leaves)
            | inr not_b ↦ elim (eq_or k (slice_index order (n + r))) [
              | inl is_e ↦
                  let now : slice_index at' k ≡ c = ap (slice_index at') is_e ∙ swap.enters in
                  let was : slice_index at k ≡ n + r = ap (slice_index at) is_e ∙ place.back (n + r) r_lt in
                  along p q t W X Y (entry z c) (pos 0) (entry lead c)
                  (w_is ∙ slot_basic n i z (slice_index at' k) (omega (arith, now)) ∙ ap (λ s. entry z s) now)
                  (x_is ∙ slot_none n i old (slice_index at k) (omega (arith, was)) (λ e. ne (omega (arith, e, was))))
                  (y_is ∙ slot_basic n r lead (slice_index at' k) (omega (arith, now)) ∙ ap (λ s. entry lead s) now)
                  d.enters
              | inr not_e ↦
                  let now : slice_index at' k ≡ slice_index at k = swap.others k not_b not_e in
                  let s = slice_index at k in
                  let not_c : s ≢ c = λ e. not_b (sym (place.there k lt) ∙ ap (slice_index order) e) in
                  let not_r : s ≢ n + r = λ e. not_e (sym (place.there k lt) ∙ ap (slice_index order) e) in
                  let w_at : W ≡ slot_entry n i z s = w_is ∙ ap (slot_entry n i z) now in
                  let y_at : Y ≡ slot_entry n r lead s = y_is ∙ ap (slot_entry n r lead) now in
                  elim (lt_or s n) [
                    | inl low ↦ along p q t W X Y (entry z s) (entry old s) (entry lead s)
                        (w_at ∙ slot_basic n i z s low) (x_is ∙ slot_basic n i old s low) (y_at ∙ slot_basic n r lead s low) (d.basic s low not_c)
                    | inr high ↦ elim (eq_or s (n + i)) [
                      | inl own ↦ along p q t W X Y (entry z n) (entry old n) (pos 0)
                          (w_at ∙ slot_own n i z s own) (x_is ∙ slot_own n i old s own) (y_at ∙ slot_none n r lead s high not_r) d.own
                      | inr far ↦ none_left p q t W X Y (w_at ∙ slot_none n i z s high far) (x_is ∙ slot_none n i old s high far) (y_at ∙ slot_none n r lead s high not_r)
                    ]
                  ]
            ]
          ]
    ]

positive_part : (p old z t : ℤ) → pos 1 ≤ℤ p → pos 1 ≤ℤ old → pos 1 ≤ℤ t → z *ℤ t ≡ p *ℤ old → pos 1 ≤ℤ z
positive_part p old (pos zero) t hp ho ht e = absurd (omega (arith, ints, e, zero-*ℤ t, pos_pos p old (omega (arith, ints)) (omega (arith, ints))))
positive_part p old (pos (suc z)) t hp ho ht e = omega (arith, ints)
positive_part p old (negsuc z) (pos t) hp ho ht e = absurd (omega (arith, ints, e, pos_pos p old (omega (arith, ints)) (omega (arith, ints))))
positive_part p old (negsuc z) (negsuc t) hp ho ht e = absurd (omega (arith, ints))

-- the new row is a row of the tableau after the exchange
pub new_row_at : (a : Mat) (i r c : ℕ) (at order at' : List ℕ) (old lead z : List ℤ)
    → ArePlaced a.cols (width a) at order → Swapped c (a.cols + r) at order at' → c < a.cols → r < length a.rows → i ≢ r
    → IsRowAt a at i old → IsRowAt a at' r lead → IsNewRow a.cols c old lead z → IsRowAt a at' i z
new_row_at a i r c at order at' old lead z place swap c_lt r_lt ne was led made =
    let n = a.cols in
    let d = differs n i r c old lead z made c_lt was.long led.long in
    let t = made.is.t in
    record {
      long = made.is.long ∙ length-put old c (pos 0) ∙ was.long;
      dual = dual_combined a made.p made.q t (spread n i old at) (spread n r lead at') (spread n i z at') (λ e. omega (arith, ints, e, made.is.some))
          was.dual led.dual (omega (arith, length-spread n i z at', length-spread n i old at, swap.long))
          (linked n (width a) i r c at order at' old lead z made.p made.q t place swap c_lt (omega arith) ne d);
      positive = positive_part made.p (entry old n) (entry z n) t made.some was.positive made.is.some (omega (arith, ints, d.own, *ℤ-zero made.q));
      primitive = made.is.primitive;
    }
