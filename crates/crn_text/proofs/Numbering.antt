-- Numbers each of which is after the smaller ones.
use Rattle.crn_text.proofs.Prelude.{◌≡◌, ℕ, zero, suc, ◌+◌, ◌<◌, ◌≤◌, List, [], ◌∷◌, ◌++◌, inl, inr, arith, cases_lt, IsIn, IsNumberedInOrder}
use Rattle.std.proofs.Common.{◌⊎◌}
use Rattle.crn_text.proofs.Complexes.{upto}

-- ---- each number after the smaller ones

-- before each number each smaller one has come, or is known
abbrev pub AreAfter : (ℕ → Type 0) → List ℕ → Type 0
AreAfter P [] = Unit {0}
AreAfter P (y ∷ ys) = ((k : ℕ) → k < y → P k) × AreAfter (λ k. P k ⊎ (k ≡ y)) ys

with_more : (P Q : ℕ → Type 0) (y : ℕ) → ((k : ℕ) → P k → Q k) → (k : ℕ) → P k ⊎ (k ≡ y) → Q k ⊎ (k ≡ y)
with_more P Q y w k (inl p) = inl (w k p)
with_more P Q y w k (inr e) = inr e

pub after_known : (P Q : ℕ → Type 0) (ys : List ℕ) → ((k : ℕ) → P k → Q k) → AreAfter P ys → AreAfter Q ys
after_known P Q [] w h = tt
after_known P Q (y ∷ ys) w h = (λ k lt. w k (h.0 k lt), after_known (λ k. P k ⊎ (k ≡ y)) (λ k. Q k ⊎ (k ≡ y)) ys (with_more P Q y w) h.1)

known_or_none : (P : ℕ → Type 0) (k : ℕ) → P k ⊎ IsIn k [] → P k
known_or_none P k (inl p) = p
known_or_none P k (inr i) = absurd i

pub known_or_first : (P : ℕ → Type 0) (x : ℕ) (xs : List ℕ) (k : ℕ) → P k ⊎ IsIn k (x ∷ xs) → (P k ⊎ (k ≡ x)) ⊎ IsIn k xs
known_or_first P x xs k (inl p) = inl (inl p)
known_or_first P x xs k (inr (inl e)) = inl (inr e)
known_or_first P x xs k (inr (inr i)) = inr i

pub after_append : (P : ℕ → Type 0) (xs ys : List ℕ) → AreAfter P xs → AreAfter (λ k. P k ⊎ IsIn k xs) ys → AreAfter P (xs ++ ys)
after_append P [] ys h g = after_known (λ k. P k ⊎ IsIn k []) P ys (known_or_none P) g
after_append P (x ∷ xs) ys h g = (h.0, after_append (λ k. P k ⊎ (k ≡ x)) xs ys h.1 (after_known (λ k. P k ⊎ IsIn k (x ∷ xs)) (λ k. (P k ⊎ (k ≡ x)) ⊎ IsIn k xs) ys (known_or_first P x xs) g))

pub in_order : (P : ℕ → Type 0) (next : ℕ) (ys : List ℕ) → ((k : ℕ) → P k → k < next) → AreAfter P ys → IsNumberedInOrder next ys
in_order P next [] below h = tt
in_order P next (y ∷ ys) below h = elim (cases_lt y next) [
  | inl known ↦ inl (known, in_order (λ k. P k ⊎ (k ≡ y)) next ys (λ k p. elim p [ inl q ↦ below k q | inr e ↦ omega (arith, e) ]) h.1)
  | inr least ↦ elim (cases_lt next y) [
    | inl less ↦ absurd (let none = below next (h.0 next less) in omega arith)
    | inr most ↦ let is : y ≡ next = omega arith in inr (is, in_order (λ k. P k ⊎ (k ≡ y)) (suc next) ys (λ k p. elim p [ inl q ↦ let less = below k q in omega arith | inr e ↦ omega (arith, e) ]) h.1)
  ]
]

-- ---- numbers in a row

pub in_upto : (a n c : ℕ) → a ≤ c → c < a + n → IsIn c (upto a n)
in_upto a zero c le lt = absurd (omega arith)
in_upto a (suc n) c le lt = elim (cases_lt a c) [
  | inl less ↦ inr (in_upto (suc a) n c (omega arith) (omega arith))
  | inr same ↦ inl (omega arith)
]

pub of_upto : (a n c : ℕ) → IsIn c (upto a n) → c < a + n
of_upto a zero c i = absurd i
of_upto a (suc n) c (inl e) = omega (arith, e)
of_upto a (suc n) c (inr i) = let p = of_upto (suc a) n c i in omega (arith, p)
