-- A row less a low multiple of the lead, if the row has the factor 1.
use Rattle.crn_tab.proofs.Prelude.{◌≡◌, ℕ, zero, suc, ◌^◌, ◌<◌, ◌⊎◌, inl, inr, List, [], ◌∷◌, length, refl, sym, ap, subst, ◌∙◌, arith, to_z, of_z, ℤ, pos, neg_ℤ, ◌-ℤ◌, ◌*ℤ◌, FitsSigned, slice_index, slice_index_or, unsigned_abs, w64, ints, to_z-of_z, fits_signed_from_abs, past_end, inside_or, at_in, in_at, WIDE_ENTRY, IsIn, entry, put, ArePlaces}
use lib.IntN.{*ℤ-zero}
use Rattle.crn_tab.proofs.Cross.{read}
use Rattle.crn_tab.proofs.LowCross.{product_low, read_low}
use Rattle.crn_tab.proofs.NewRows.{look, put_same, put_other}
use Rattle.crn_tab.proofs.Signs.{is_none}

pub listed_place : (places : List ℕ) (s : ℕ) → s < length places → slice_index places s ≡ slice_index_or places s 0
listed_place [] s h = absurd (omega arith)
listed_place (x ∷ xs) zero h = refl
listed_place (x ∷ xs) (suc s) h = listed_place xs s (omega arith)

pub listed_inside : (row : List ℤ) (places : List ℕ) (s : ℕ) → ArePlaces row places → s < length places → slice_index_or places s 0 < length row
listed_inside row places s h lt = h.inside (slice_index_or places s 0) (subst (λ (j : ℕ). IsIn j places) (listed_place places s lt) (at_in places s 0 lt))

pub record Lessened (x q y : ℤ) : Type 0 where
  pub read_x : to_z w64 (of_z w64 x) ≡ x
  pub read_q : to_z w64 (of_z w64 q) ≡ q
  pub read_y : to_z w64 (of_z w64 y) ≡ y
  pub product_fits : FitsSigned w64 (q *ℤ y)
  pub product : to_z w64 (of_z w64 (q *ℤ y)) ≡ q *ℤ y
  pub fits : FitsSigned w64 (x -ℤ (q *ℤ y))
  pub whole : to_z w64 (of_z w64 (x -ℤ (q *ℤ y))) ≡ x -ℤ (q *ℤ y)
  pub other_fits : FitsSigned w64 (neg_ℤ (q *ℤ y))
  pub other : to_z w64 (of_z w64 (neg_ℤ (q *ℤ y))) ≡ neg_ℤ (q *ℤ y)
  pub small : unsigned_abs (neg_ℤ (q *ℤ y)) < WIDE_ENTRY

less_bound : (x z : ℤ) → unsigned_abs x < WIDE_ENTRY → unsigned_abs z < 2 ^ 60 → unsigned_abs (x -ℤ z) < 2 ^ 63
less_bound x z p q = omega (arith, ints)

neg_bound : (z : ℤ) → unsigned_abs z < 2 ^ 60 → unsigned_abs (neg_ℤ z) < 2 ^ 60
neg_bound z p = omega (arith, ints)

pub lessened : (x q y : ℤ) → unsigned_abs x < WIDE_ENTRY → unsigned_abs q < 2 ^ 30 → unsigned_abs y < 2 ^ 30 → Lessened x q y
lessened x q y hx hq hy =
    let f : unsigned_abs (q *ℤ y) < 2 ^ 60 = product_low q y hq hy in
    let g : unsigned_abs (x -ℤ (q *ℤ y)) < 2 ^ 63 = less_bound x (q *ℤ y) hx f in
    let n : unsigned_abs (neg_ℤ (q *ℤ y)) < 2 ^ 60 = neg_bound (q *ℤ y) f in
    let pf : FitsSigned w64 (q *ℤ y) = fits_signed_from_abs w64 (q *ℤ y) (omega arith) in
    let df : FitsSigned w64 (x -ℤ (q *ℤ y)) = fits_signed_from_abs w64 (x -ℤ (q *ℤ y)) (omega arith) in
    let nf : FitsSigned w64 (neg_ℤ (q *ℤ y)) = fits_signed_from_abs w64 (neg_ℤ (q *ℤ y)) (omega arith) in
    record {
      read_x = read x hx;
      read_q = read_low q hq;
      read_y = read_low y hy;
      product_fits = pf;
      product = to_z-of_z w64 (q *ℤ y) pf;
      fits = df;
      whole = to_z-of_z w64 (x -ℤ (q *ℤ y)) df;
      other_fits = nf;
      other = to_z-of_z w64 (neg_ℤ (q *ℤ y)) nf;
      small = omega arith;
    }

-- the places of the list are done, and at the others nothing has to be done
pub all_done : (row lead into : List ℤ) (places : List ℕ) (q : ℤ) → length lead ≡ length row → ArePlaces lead places
    → ((k : ℕ) → (entry into k ≡ entry row k) ⊎ (entry into k ≡ entry row k -ℤ (q *ℤ entry lead k)))
    → ((i : ℕ) → i < length places → entry into (slice_index places i) ≡ entry row (slice_index places i) -ℤ (q *ℤ entry lead (slice_index places i)))
    → (k : ℕ) → entry into k ≡ entry row k -ℤ (q *ℤ entry lead k)
all_done row lead into places q long h each done k =
    let stays : entry lead k ≡ pos 0 → entry into k ≡ entry row k -ℤ (q *ℤ entry lead k) = λ none. elim (each k) [
      | inr d ↦ d
      | inl same ↦ omega (arith, ints, same, ap (λ (t : ℤ). q *ℤ t) none, *ℤ-zero q)
    ] in
    elim (inside_or lead k) [
      | inr le ↦ stays (past_end lead k le)
      | inl lt ↦ elim (is_none (entry lead k)) [
        | inl none ↦ stays none
        | inr some ↦
            let r = in_at k places 0 (h.all k lt (λ e. let z : unsigned_abs (entry lead k) ≡ 0 = ap unsigned_abs e in omega (arith, some, z))) in
            subst (λ (j : ℕ). entry into j ≡ entry row j -ℤ (q *ℤ entry lead j)) r.2 (done r.0 r.1)
      ]
    ]

first_zero : (p a b n : ℤ) → a ≡ pos 0 → n ≡ neg_ℤ b → n ≡ (p *ℤ a) -ℤ b
first_zero p a b n e f = omega (arith, ints, f, ap (λ (t : ℤ). p *ℤ t) e, *ℤ-zero p)

one_first : (p a b : ℤ) → p ≡ pos 1 → a -ℤ b ≡ (p *ℤ a) -ℤ b
one_first p a b e = omega (arith, ints, ap (λ (t : ℤ). t *ℤ a) e)

-- with what the place c has at last, it is the difference of the row without that place
pub sparse_value : (row lead into : List ℤ) (c : ℕ) (p q x : ℤ) → p ≡ pos 1 → c < length row → length into ≡ length row
    → ((k : ℕ) → entry into k ≡ entry row k -ℤ (q *ℤ entry lead k)) → x ≡ neg_ℤ (q *ℤ entry lead c)
    → (k : ℕ) → entry (put into c x) k ≡ (p *ℤ entry (put row c (pos 0)) k) -ℤ (q *ℤ entry lead k)
sparse_value row lead into c p q x one lt long value is k = elim (look into c k x (omega (arith, long))) [
  | inl r ↦
      subst (λ (j : ℕ). entry (put into c x) j ≡ (p *ℤ entry (put row c (pos 0)) j) -ℤ (q *ℤ entry lead j)) (sym r.0)
      (put_same into c x (omega (arith, long)) ∙ first_zero p (entry (put row c (pos 0)) c) (q *ℤ entry lead c) x (put_same row c (pos 0) lt) is)
  | inr r ↦
      r.1 ∙ value k ∙ ap (λ (t : ℤ). t -ℤ (q *ℤ entry lead k)) (sym (put_other row c k (pos 0) lt r.0))
      ∙ one_first p (entry (put row c (pos 0)) k) (q *ℤ entry lead k) one
]
