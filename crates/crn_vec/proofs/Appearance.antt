-- Numbering by first appearance, and the same read from left to right with the count of what has appeared.
use Rattle.crn_vec.proofs.Prelude.{◌≡◌, ℕ, zero, suc, ◌<◌, ◌⊎◌, inl, inr, List, [], ◌∷◌, length, get_or, arith, cases_lt, IsFirstAppearance}

-- each number that appears for the first time is the next one, and those below `next` are known
abbrev pub IsNumberedInOrder : ℕ → List ℕ → Type 0
IsNumberedInOrder next [] = Unit {0}
IsNumberedInOrder next (y ∷ ys) = ((y < next) × IsNumberedInOrder next ys) ⊎ ((y ≡ next) × IsNumberedInOrder (suc next) ys)

-- each number below one that appears is known or has appeared before it
abbrev Appears : ℕ → List ℕ → Type 0
Appears next ys = (i k : ℕ) → i < length ys → k < get_or ys i 0 → (k < next) ⊎ ((j : ℕ) × (j < i) × (get_or ys j 0 ≡ k))

appears : (next : ℕ) (ys : List ℕ) → IsNumberedInOrder next ys → Appears next ys
appears next [] h i k lt less = absurd (omega arith)
appears next (y ∷ ys) (inl h) zero k lt less = inl (omega (arith, h.0))
appears next (y ∷ ys) (inr h) zero k lt less = inl (omega (arith, h.0))
appears next (y ∷ ys) (inl h) (suc i) k lt less = elim (appears next ys h.1 i k (omega arith) less) [
  | inl known ↦ inl known
  | inr seen ↦ inr (suc seen.0, omega (arith, seen.1), seen.2)
]
appears next (y ∷ ys) (inr h) (suc i) k lt less = elim (appears (suc next) ys h.1 i k (omega arith) less) [
  | inl known ↦ elim (cases_lt k next) [
    | inl known ↦ inl known
    | inr least ↦ inr (0, omega arith, omega (arith, h.0))
  ]
  | inr seen ↦ inr (suc seen.0, omega (arith, seen.1), seen.2)
]

after_known : (next y : ℕ) (ys : List ℕ) → y < next → Appears next (y ∷ ys) → Appears next ys
after_known next y ys le h i k lt less = elim (h (suc i) k (omega arith) less) [
  | inl known ↦ inl known
  | inr seen ↦ appears_after seen.0 seen.1 seen.2
]
  where
    appears_after : (j : ℕ) → j < suc i → get_or (y ∷ ys) j 0 ≡ k → (k < next) ⊎ ((j : ℕ) × (j < i) × (get_or ys j 0 ≡ k))
    appears_after zero b e = inl (omega (arith, e))
    appears_after (suc j) b e = inr (j, omega arith, e)

pub in_order_appears : (ys : List ℕ) → IsNumberedInOrder 0 ys → IsFirstAppearance ys
in_order_appears ys h i k lt less = elim (appears 0 ys h i k lt less) [
  | inl none ↦ absurd (omega arith)
  | inr seen ↦ seen
]

after_next : (next y : ℕ) (ys : List ℕ) → y ≡ next → Appears next (y ∷ ys) → Appears (suc next) ys
after_next next y ys is h i k lt less = elim (h (suc i) k (omega arith) less) [
  | inl known ↦ inl (omega arith)
  | inr seen ↦ appears_after seen.0 seen.1 seen.2
]
  where
    appears_after : (j : ℕ) → j < suc i → get_or (y ∷ ys) j 0 ≡ k → (k < suc next) ⊎ ((j : ℕ) × (j < i) × (get_or ys j 0 ≡ k))
    appears_after zero b e = inl (omega (arith, e, is))
    appears_after (suc j) b e = inr (j, omega arith, e)

ordered : (next : ℕ) (ys : List ℕ) → Appears next ys → IsNumberedInOrder next ys
ordered next [] h = tt
ordered next (y ∷ ys) h = elim (cases_lt y next) [
  | inl known ↦ inl (known, ordered next ys (after_known next y ys known h))
  | inr least ↦ elim (cases_lt next y) [
    | inl less ↦ absurd (elim (h 0 next (omega arith) less) [ inl known ↦ omega arith | inr seen ↦ let none = seen.1 in omega arith ])
    | inr most ↦ let is : y ≡ next = omega arith in inr (is, ordered (suc next) ys (after_next next y ys is h))
  ]
]

pub appears_in_order : (ys : List ℕ) → IsFirstAppearance ys → IsNumberedInOrder 0 ys
appears_in_order ys h = ordered 0 ys (λ i k lt less. inr (h i k lt less))
