-- The greatest label is how many labels there are.
use Rattle.crn_indep_check.proofs.Prelude.{◌≡◌, ◌≤◌, ◌<◌, ◌⊎◌, ℕ, zero, suc, List, [], ◌∷◌, length, subst, inl, inr, arith, slice_index, IsLabelCount, lt_or, AreNumbered, greatest}

pub below_greatest : (xs : List ℕ) (k : ℕ) → k < length xs → slice_index xs k ≤ greatest xs
below_greatest [] k lt = absurd (omega (arith, lt))
below_greatest (x ∷ xs) zero lt = omega arith
below_greatest (x ∷ xs) (suc k) lt = omega (arith, below_greatest xs k (omega (arith, lt)))

pub greatest_in : (xs : List ℕ) → (greatest xs ≡ 0) ⊎ ((k : ℕ) × (k < length xs) × (slice_index xs k ≡ greatest xs))
greatest_in [] = inl (omega arith)
greatest_in (x ∷ xs) = elim (lt_or x (greatest xs)) [
  | inl lt ↦ elim (greatest_in xs) [
    | inl none ↦ absurd (omega (arith, lt, none))
    | inr h ↦ inr (suc h.0, omega (arith, h.1), omega (arith, h.2, lt))
  ]
  | inr most ↦ inr (zero, omega arith, omega (arith, most))
]

pub greatest_is : (labels : List ℕ) (count : ℕ) → IsLabelCount labels count → count ≡ greatest labels
greatest_is labels count n =
    let up : count ≤ greatest labels = elim (lt_or 0 count) as (λ _. count ≤ greatest labels) [
      | inl some ↦ let e = n.each in let f = e count (omega (arith, some)) (omega arith) in omega (arith, below_greatest labels f.0 f.1, f.2)
      | inr none ↦ omega (arith, none)
    ] in
    let down : greatest labels ≤ count = elim (greatest_in labels) as (λ _. greatest labels ≤ count) [
      | inl none ↦ omega (arith, none)
      | inr h ↦ let m = n.most in let less = m h.0 h.1 in omega (arith, less, h.2)
    ] in
    omega (arith, up, down)

pub even_counts : (labels : List ℕ) (count : ℕ) → AreNumbered labels count → IsLabelCount labels (greatest labels)
even_counts labels count n = subst (IsLabelCount labels) (greatest_is labels count n.count_is) n.count_is
