-- The exchanged row in its new places.
use Rattle.crn_tab.proofs.Prelude.{◌≡◌, ◌≢◌, ℕ, zero, suc, ◌+◌, ◌-◌, ◌<◌, ◌≤◌, ◌⊎◌, inl, inr, List, length, sym, ap, subst, ◌∙◌, arith, ℤ, pos, negsuc, ◌-ℤ◌, ◌*ℤ◌, ◌≤ℤ◌, slice_index, unsigned_abs, ◌∣◌, ints, one-dvd, Mat, entry, width, past_end, lt_or, eq_or, IsContent, slot_entry, spread, ArePlaced, IsRowAt, AreSmall, AreBelow, IsLead}
use lib.IntN.{*ℤ-zero, zero-*ℤ}
use Rattle.crn_tab.proofs.Places.{slot_basic, slot_own, slot_none, length-spread, entry-spread}
use Rattle.crn_tab.proofs.Spaces.{dual_combined}
use Rattle.crn_tab.proofs.Exchanges.{Swapped}

same_size : (s x y : ℤ) → (s ≡ pos 1) ⊎ (s ≡ negsuc 0) → y ≡ s *ℤ x → unsigned_abs x ≡ unsigned_abs y
same_size s x y (inl e) f = omega (arith, ints, f, ap (λ (t : ℤ). t *ℤ x) e)
same_size s x y (inr e) f = omega (arith, ints, f, ap (λ (t : ℤ). t *ℤ x) e)

signed : (s v w x : ℤ) → w ≡ s *ℤ v → w *ℤ pos 1 ≡ (s *ℤ v) -ℤ (pos 0 *ℤ x)
signed s v w x e = omega (arith, ints, e, zero-*ℤ x)

signed_zero : (s v w x : ℤ) → w ≡ pos 0 → v ≡ pos 0 → w *ℤ pos 1 ≡ (s *ℤ v) -ℤ (pos 0 *ℤ x)
signed_zero s v w x e f = omega (arith, ints, e, ap (λ (t : ℤ). s *ℤ t) f, *ℤ-zero s, zero-*ℤ x)

pub lead_small : (n c : ℕ) (row lead : List ℤ) → IsLead (n + 1) c row lead → AreSmall row → AreSmall lead
lead_small n c row lead h small k = elim (eq_or k c) [
  | inl e ↦ omega (arith, small (n + 1 - 1), same_size h.sign (entry row (n + 1 - 1)) (entry lead c) h.unit h.enters, ap (λ i. unsigned_abs (entry lead i)) e)
  | inr nc ↦ elim (eq_or k (n + 1 - 1)) [
    | inl e ↦ omega (arith, small c, same_size h.sign (entry row c) (entry lead (n + 1 - 1)) h.unit h.leaves, ap (λ i. unsigned_abs (entry lead i)) e)
    | inr nn ↦ omega (arith, small k, same_size h.sign (entry row k) (entry lead k) h.unit (h.others k nc nn))
  ]
]

lead_content : (n c : ℕ) (row lead : List ℤ) → IsLead (n + 1) c row lead → IsContent row 1 → IsContent lead 1
lead_content n c row lead h content = record {
  divides = λ k. one-dvd (unsigned_abs (entry lead k));
  greatest = λ d divides.
      let D : ℕ → Type 0 = λ m. d ∣ m in
      content.greatest d (λ k. elim (eq_or k c) [
        | inl e ↦ subst D (sym (ap (λ i. unsigned_abs (entry row i)) e ∙ same_size h.sign (entry row c) (entry lead (n + 1 - 1)) h.unit h.leaves)) (divides (n + 1 - 1))
        | inr nc ↦ elim (eq_or k (n + 1 - 1)) [
          | inl e ↦ subst D (sym (ap (λ i. unsigned_abs (entry row i)) e ∙ same_size h.sign (entry row (n + 1 - 1)) (entry lead c) h.unit h.enters)) (divides c)
          | inr nn ↦ subst D (sym (same_size h.sign (entry row k) (entry lead k) h.unit (h.others k nc nn))) (divides k)
        ]
      ]);
}

-- the exchanged row is a row of the tableau after the exchange
pub lead_at : (a : Mat) (r c : ℕ) (at order at' : List ℕ) (row lead : List ℤ)
    → ArePlaced a.cols (width a) at order → Swapped c (a.cols + r) at order at' → c < a.cols → r < length a.rows
    → IsRowAt a at r row → IsLead (a.cols + 1) c row lead → IsRowAt a at' r lead
lead_at a r c at order at' row lead place swap c_lt r_lt was h =
    let n = a.cols in
    let last : n + 1 - 1 ≡ n = omega arith in
    let old = spread n r row at in
    let new = spread n r lead at' in
    let leaves : entry lead n ≡ h.sign *ℤ entry row c = ap (λ i. entry lead i) (sym last) ∙ h.leaves in
    let enters : entry lead c ≡ h.sign *ℤ entry row n = h.enters ∙ ap (λ i. h.sign *ℤ entry row i) last in
    let each : (k : ℕ) → entry new k *ℤ pos 1 ≡ (h.sign *ℤ entry old k) -ℤ (pos 0 *ℤ entry old k) = λ k. elim (lt_or k (width a)) [
      | inr past ↦ signed_zero h.sign (entry old k) (entry new k) (entry old k)
          (past_end new k (omega (arith, length-spread n r lead at', swap.long, place.at_long))) (past_end old k (omega (arith, length-spread n r row at, place.at_long)))
      | inl lt ↦
          let w_is = entry-spread n r lead at' k (omega (arith, swap.long, place.at_long)) in
          let x_is = entry-spread n r row at k (omega (arith, place.at_long)) in
          elim (eq_or k (slice_index order c)) [
            | inl is_b ↦
                let now : slice_index at' k ≡ n + r = ap (slice_index at') is_b ∙ swap.leaves in
                let was_at : slice_index at k ≡ c = ap (slice_index at) is_b ∙ place.back c (omega arith) in
                let x : entry old k ≡ entry row c = x_is ∙ slot_basic n r row (slice_index at k) (omega (arith, was_at)) ∙ ap (λ s. entry row s) was_at in
                signed h.sign (entry old k) (entry new k) (entry old k)
                (w_is ∙ slot_own n r lead (slice_index at' k) now ∙ leaves ∙ ap (λ (t : ℤ). h.sign *ℤ t) (sym x))
            | inr not_b ↦ elim (eq_or k (slice_index order (n + r))) [
              | inl is_e ↦
                  let now : slice_index at' k ≡ c = ap (slice_index at') is_e ∙ swap.enters in
                  let was_at : slice_index at k ≡ n + r = ap (slice_index at) is_e ∙ place.back (n + r) (omega arith) in
                  let x : entry old k ≡ entry row n = x_is ∙ slot_own n r row (slice_index at k) was_at in
                  signed h.sign (entry old k) (entry new k) (entry old k)
                  (w_is ∙ slot_basic n r lead (slice_index at' k) (omega (arith, now)) ∙ ap (λ s. entry lead s) now ∙ enters ∙ ap (λ (t : ℤ). h.sign *ℤ t) (sym x))
              | inr not_e ↦
                  let s = slice_index at k in
                  let now : slice_index at' k ≡ s = swap.others k not_b not_e in
                  let not_c : s ≢ c = λ e. not_b (sym (place.there k lt) ∙ ap (slice_index order) e) in
                  let not_r : s ≢ n + r = λ e. not_e (sym (place.there k lt) ∙ ap (slice_index order) e) in
                  let w_at = w_is ∙ ap (slot_entry n r lead) now in
                  elim (lt_or s n) [
                    | inl low ↦ signed h.sign (entry old k) (entry new k) (entry old k)
                        (w_at ∙ slot_basic n r lead s low ∙ h.others s not_c (λ f. omega arith) ∙ ap (λ (t : ℤ). h.sign *ℤ t) (sym (x_is ∙ slot_basic n r row s low)))
                    | inr high ↦ signed_zero h.sign (entry old k) (entry new k) (entry old k) (w_at ∙ slot_none n r lead s high not_r) (x_is ∙ slot_none n r row s high not_r)
                  ]
            ]
          ]
    ] in
    record {
      long = h.long;
      dual = dual_combined a h.sign (pos 0) (pos 1) old old new (λ e. omega (arith, ints, e)) was.dual was.dual
          (omega (arith, length-spread n r lead at', length-spread n r row at, swap.long)) each;
      positive = (let P : ℕ → Type 0 = λ i. pos 1 ≤ℤ entry lead i in subst P last h.positive);
      primitive = lead_content n c row lead h was.primitive;
    }

pub lead_small_at : (w c : ℕ) (row lead : List ℤ) → IsLead w c row lead → AreSmall row → AreSmall lead
lead_small_at w c row lead h small k = elim (eq_or k c) [
  | inl e ↦ omega (arith, small (w - 1), same_size h.sign (entry row (w - 1)) (entry lead c) h.unit h.enters, ap (λ i. unsigned_abs (entry lead i)) e)
  | inr nc ↦ elim (eq_or k (w - 1)) [
    | inl e ↦ omega (arith, small c, same_size h.sign (entry row c) (entry lead (w - 1)) h.unit h.leaves, ap (λ i. unsigned_abs (entry lead i)) e)
    | inr nn ↦ omega (arith, small k, same_size h.sign (entry row k) (entry lead k) h.unit (h.others k nc nn))
  ]
]

pub lead_below_at : (b w c : ℕ) (row lead : List ℤ) → IsLead w c row lead → AreBelow b row → AreBelow b lead
lead_below_at b w c row lead h low k = elim (eq_or k c) [
  | inl e ↦ omega (arith, low (w - 1), same_size h.sign (entry row (w - 1)) (entry lead c) h.unit h.enters, ap (λ i. unsigned_abs (entry lead i)) e)
  | inr nc ↦ elim (eq_or k (w - 1)) [
    | inl e ↦ omega (arith, low c, same_size h.sign (entry row c) (entry lead (w - 1)) h.unit h.leaves, ap (λ i. unsigned_abs (entry lead i)) e)
    | inr nn ↦ omega (arith, low k, same_size h.sign (entry row k) (entry lead k) h.unit (h.others k nc nn))
  ]
]

pub lead_primitive_at : (w c : ℕ) (row lead : List ℤ) → 1 ≤ w → IsLead w c row lead → IsContent row 1 → IsContent lead 1
lead_primitive_at zero c row lead some h content = absurd (omega arith)
lead_primitive_at (suc n) c row lead some h content =
    let same : suc n ≡ n + 1 = omega arith in
    let L : ℕ → Type 0 = λ w. IsLead w c row lead in
    lead_content n c row lead (subst L same h) content
