-- The rows of a tableau make a basis, and are the vectors that it names.
use Rattle.crn_tab.proofs.Prelude.{◌≡◌, ◌≢◌, ℕ, ◌+◌, ◌-◌, ◌<◌, ◌≤◌, inl, inr, List, length, sym, ap, subst, ◌∙◌, arith, ℤ, pos, ◌*ℤ◌, slice_index, unsigned_abs, ◌∣◌, ints, dvd-zero, eq-one_of_dvd-one, Mat, entry, AreOfLength, IsIn, width, IsBasis, IsPrimitive, IsNamed, no_zero, past_end, inside_or, lt_or, orthogonal, dot_single, IsContent, slot_entry, spread, basis_of, ArePlaced, IsRowAt}
use lib.IntN.{*ℤ-zero, zero-*ℤ}
use Rattle.crn_tab.proofs.Places.{isIn_or, slot_basic, slot_own, slot_none, length-spread, entry-spread, in_basis, basis_only, basis_ascending}

-- a coordinate outside the basis has the slot of a row
pub outside_slot : (n count : ℕ) (at order : List ℕ) (k : ℕ) → ArePlaced n count at order → k < count → ¬ IsIn k (basis_of n at) → n ≤ slice_index at k
outside_slot n count at order k p lt out = elim (lt_or (slice_index at k) n) [
  | inl h ↦ absurd (out (in_basis n at k (omega (arith, p.at_long)) h))
  | inr h ↦ h
]

-- what a row keeps is zero outside the basis and its own coordinate
pub zero_outside : (n count : ℕ) (at order : List ℕ) (i : ℕ) (row : List ℤ) (e : ℕ) → ArePlaced n count at order → e < count → slice_index at e ≡ n + i
    → (k : ℕ) → ¬ IsIn k (basis_of n at) → k ≢ e → entry (spread n i row at) k ≡ pos 0
zero_outside n count at order i row e p e_lt own k out ne = elim (inside_or (spread n i row at) k) [
  | inr h ↦ past_end (spread n i row at) k h
  | inl h ↦
      let lt : k < length at = omega (arith, length-spread n i row at) in
      let far : slice_index at k ≢ n + i = λ f. ne (sym (p.there k (omega (arith, p.at_long))) ∙ ap (slice_index order) (f ∙ sym own) ∙ p.there e e_lt) in
      entry-spread n i row at k lt ∙ slot_none n i row (slice_index at k) (outside_slot n count at order k p (omega (arith, p.at_long)) out) far
]

pub at_own : (n count : ℕ) (at order : List ℕ) (i : ℕ) (row : List ℤ) (e : ℕ) → ArePlaced n count at order → e < count → slice_index at e ≡ n + i
    → entry (spread n i row at) e ≡ entry row n
at_own n count at order i row e p lt own = entry-spread n i row at e (omega (arith, p.at_long)) ∙ slot_own n i row (slice_index at e) own

-- rows for all slots make a basis
pub rows_make_basis : (a : Mat) (at order : List ℕ) → AreOfLength a.cols a.rows → ArePlaced a.cols (width a) at order
    → ((i : ℕ) → i < length a.rows → (row : List ℤ) × IsRowAt a at i row) → IsBasis a (basis_of a.cols at)
rows_make_basis a at order wide p each = record {
  ascending = basis_ascending 0 a.cols at;
  count = p.basis;
  below = λ k h. let m = basis_only 0 a.cols at k h in omega (arith, m.is, m.inside, p.at_long);
  free = λ v row zero_on k. elim (inside_or v k) [
    | inr h ↦ past_end v k h
    | inl h ↦ elim (isIn_or k (basis_of a.cols at)) [
      | inl member ↦ zero_on k member
      | inr out ↦
          let n = a.cols in
          let lt : k < width a = omega (arith, row.long) in
          let i = slice_index at k - n in
          let low : n ≤ slice_index at k = outside_slot n (width a) at order k p lt out in
          let own : slice_index at k ≡ n + i = omega (arith, low) in
          let kept = each i (omega (arith, low, p.at_below k lt)) in
          let w = spread n i kept.0 at in
          let others : (j : ℕ) → j ≢ k → entry w j *ℤ entry v j ≡ pos 0 = λ j ne. elim (isIn_or j (basis_of n at)) [
            | inl member ↦ ap (λ (s : ℤ). entry w j *ℤ s) (zero_on j member) ∙ *ℤ-zero (entry w j)
            | inr far ↦ ap (λ (s : ℤ). s *ℤ entry v j) (zero_outside n (width a) at order i kept.0 k p lt own j far ne) ∙ zero-*ℤ (entry v j)
          ] in
          let product : entry w k *ℤ entry v k ≡ pos 0 = sym (dot_single w v k others) ∙ orthogonal a w v kept.1.dual row in
          no_zero (entry w k) (entry v k) product (λ e. omega (arith, ints, e, kept.1.positive, at_own n (width a) at order i kept.0 k p lt own))
    ]
  ];
}

-- a primitive row keeps a primitive vector
pub spread_primitive : (n count : ℕ) (at order : List ℕ) (i : ℕ) (row : List ℤ) → ArePlaced n count at order → n + i < count → length row ≡ n + 1 → IsContent row 1 → IsPrimitive (spread n i row at)
spread_primitive n count at order i row p lt long h d divides =
    let w = spread n i row at in
    let D : ℤ → Type 0 = λ z. d ∣ unsigned_abs z in
    let each : (s : ℕ) → d ∣ unsigned_abs (entry row s) = λ s. elim (lt_or s n) [
      | inl s_lt ↦
          let c = slice_index order s in
          let slot : slice_index at c ≡ s = p.back s (omega arith) in
          let e : entry w c ≡ entry row s = entry-spread n i row at c (omega (arith, p.at_long, p.order_below s (omega arith))) ∙ ap (slot_entry n i row) slot ∙ slot_basic n i row s s_lt in
          subst D e (divides c)
      | inr s_le ↦ elim (lt_or n s) [
        | inl past ↦ subst D (sym (past_end row s (omega arith))) (dvd-zero d)
        | inr same ↦
            let c = slice_index order (n + i) in
            let c_lt : c < count = p.order_below (n + i) lt in
            let e : entry w c ≡ entry row n = at_own n count at order i row c p c_lt (p.back (n + i) lt) in
            let f : entry row n ≡ entry row s = ap (λ t. entry row t) (let g : n ≡ s = omega arith in g) in
            subst D (e ∙ f) (divides c)
      ]
    ] in
    eq-one_of_dvd-one (h.greatest d each)

-- and is what the basis names by its coordinate
pub row_is_named : (a : Mat) (at order : List ℕ) (i : ℕ) (row : List ℤ) → ArePlaced a.cols (width a) at order → i < length a.rows → IsBasis a (basis_of a.cols at)
    → IsRowAt a at i row → IsNamed a (basis_of a.cols at) (slice_index order (a.cols + i)) (spread a.cols i row at)
row_is_named a at order i row p lt basis kept =
    let n = a.cols in
    let e = slice_index order (n + i) in
    let e_lt : e < width a = p.order_below (n + i) (omega arith) in
    let own : slice_index at e ≡ n + i = p.back (n + i) (omega arith) in
    record {
      basis_is = basis;
      primitive = spread_primitive n (width a) at order i row p (omega arith) kept.long kept.primitive;
      named = inr (record {
        inside = e_lt;
        outside = λ h. let m = basis_only 0 n at e h in
            let same : slice_index at m.place ≡ slice_index at e = ap (slice_index at) (let f : m.place ≡ e = omega (arith, m.is) in f) in
            omega (arith, m.basic, same, own);
        space = kept.dual;
        zero_outside = zero_outside n (width a) at order i row e p e_lt own;
      });
    }
