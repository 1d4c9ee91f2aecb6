-- The places where a row is not 0, as they are listed.
use Rattle.crn_tab.proofs.Prelude.{◌≡◌, ◌≢◌, ℕ, zero, suc, ◌+◌, ◌<◌, inl, inr, List, [], ◌∷◌, ◌++◌, length, refl, sym, ap, subst, arith, ℤ, pos, slice_index, length-append, eq_or, lt_or, in_push, at_in, in_left, in_right, IsIn, entry}

pushed_before : (xs : List ℕ) (c j : ℕ) → j < length xs → slice_index (xs ++ c ∷ []) j ≡ slice_index xs j
pushed_before [] c j h = absurd (omega arith)
pushed_before (x ∷ xs) c zero h = refl
pushed_before (x ∷ xs) c (suc j) h = pushed_before xs c j (omega arith)

pushed_last : (xs : List ℕ) (c : ℕ) → slice_index (xs ++ c ∷ []) (length xs) ≡ c
pushed_last [] c = refl
pushed_last (x ∷ xs) c = pushed_last xs c

ascending_pushed : (xs : List ℕ) (c : ℕ) → ((k : ℕ) → IsIn k xs → k < c) → ((i j : ℕ) → i < j → j < length xs → slice_index xs i < slice_index xs j)
    → (i j : ℕ) → i < j → j < length (xs ++ c ∷ []) → slice_index (xs ++ c ∷ []) i < slice_index (xs ++ c ∷ []) j
ascending_pushed xs c below h i j lt j_lt = elim (lt_or j (length xs)) [
  | inl inside ↦ omega (arith, h i j lt inside, pushed_before xs c i (omega arith), pushed_before xs c j inside)
  | inr last ↦
      let same : j ≡ length xs = omega (arith, length-append xs (c ∷ [])) in
      omega (arith, below (slice_index xs i) (at_in xs i 0 (omega arith)), pushed_before xs c i (omega arith), ap (slice_index (xs ++ c ∷ [])) same, pushed_last xs c)
]

-- the list holds those of the first c places where the row is not 0, and such places of the row alone, ascending
pub record PlacesUpTo (row : List ℤ) (places : List ℕ) (c : ℕ) : Type 0 where
  pub ascending : (i j : ℕ) → i < j → j < length places → slice_index places i < slice_index places j
  pub below : (k : ℕ) → IsIn k places → k < c
  pub inside : (k : ℕ) → IsIn k places → k < length row
  pub all : (k : ℕ) → k < c → entry row k ≢ pos 0 → IsIn k places

pub places_none : (row : List ℤ) (places : List ℕ) → places ≡ [] → PlacesUpTo row places 0
places_none row places e = record {
  ascending = λ i j lt j_lt. absurd (omega (arith, j_lt, ap length e));
  below = λ k i. absurd (subst (λ (l : List ℕ). IsIn k l) e i);
  inside = λ k i. absurd (subst (λ (l : List ℕ). IsIn k l) e i);
  all = λ k lt some. absurd (omega (arith, lt));
}

pub place_pushed : (row : List ℤ) (xs ys : List ℕ) (c : ℕ) → PlacesUpTo row xs c → c < length row → ys ≡ xs ++ c ∷ [] → PlacesUpTo row ys (c + 1)
place_pushed row xs ys c h lt e = subst (λ (zs : List ℕ). PlacesUpTo row zs (c + 1)) (sym e) (record {
  ascending = ascending_pushed xs c h.below h.ascending;
  below = λ k i. elim (in_push k xs c i) as (λ _. k < c + 1) [ inl j ↦ omega (arith, h.below k j) | inr f ↦ omega (arith, f) ];
  inside = λ k i. elim (in_push k xs c i) as (λ _. k < length row) [ inl j ↦ h.inside k j | inr f ↦ omega (arith, f, lt) ];
  all = λ k k_lt some. elim (eq_or k c) as (λ _. IsIn k (xs ++ c ∷ [])) [ inl f ↦ in_right k xs (c ∷ []) (inl f) | inr ne ↦ in_left k xs (c ∷ []) (h.all k (omega (arith, k_lt, ne)) some) ];
})

pub place_passed : (row : List ℤ) (xs : List ℕ) (c : ℕ) → PlacesUpTo row xs c → entry row c ≡ pos 0 → PlacesUpTo row xs (c + 1)
place_passed row xs c h none = record {
  ascending = h.ascending;
  below = λ k i. omega (arith, h.below k i);
  inside = h.inside;
  all = λ k k_lt some. elim (eq_or k c) as (λ _. IsIn k xs) [
    | inl f ↦ absurd (some (subst (λ (j : ℕ). entry row j ≡ pos 0) (sym f) none))
    | inr ne ↦ h.all k (omega (arith, k_lt, ne)) some
  ];
}
