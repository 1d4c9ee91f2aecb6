-- The sums of a side: the amount of each name.
use Rattle.crn_text.proofs.Prelude.{◌≡◌, ℕ, ◌≤◌, false, List, [], ◌∷◌, ◌++◌, refl, ap, inl, inr, arith, ◌⊎◌, ◌||◌, if◌then◌else◌, nat_lt, list_any, bytes_eq, cases_Bool, or_parts, ltb-false, bytes_eq-Decides, sum_by-append, sum_by-cons, amount_in, MAX_AMOUNT, has_large}

-- the amount of a name in a term
abbrev share : List ℕ → List ℕ × ℕ → ℕ
share name t = if bytes_eq t.0 name then t.1 else 0

-- the first terms of a side have no more of a name than all terms
pub amount_prefix : (xs ys : List (List ℕ × ℕ)) (name : List ℕ) → amount_in xs name ≤ amount_in (xs ++ ys) name
amount_prefix xs ys name = omega (arith, sum_by-append (share name) xs ys)

-- if each name of some terms has a small sum, so has each name
small_or_none : (f : List ℕ → ℕ) (ts : List (List ℕ × ℕ)) (name : List ℕ) → list_any (λ t. nat_lt MAX_AMOUNT t.1 || nat_lt MAX_AMOUNT (f t.0)) ts ≡ false → (f name ≤ MAX_AMOUNT) ⊎ (amount_in ts name ≡ 0)
small_or_none f [] name h = inr refl
small_or_none f (t ∷ ts) name h =
    let here = or_parts (nat_lt MAX_AMOUNT t.1 || nat_lt MAX_AMOUNT (f t.0)) _ h in
    elim (cases_Bool (bytes_eq t.0 name)) [
      | inl y ↦
          let same : t.0 ≡ name = (bytes_eq-Decides t.0 name).0 y in
          let small : f t.0 ≤ MAX_AMOUNT = ltb-false MAX_AMOUNT (f t.0) (or_parts (nat_lt MAX_AMOUNT t.1) _ here.0).1 in
          inl (omega (arith, ap f same, small))
      | inr n ↦
          let none : share name t ≡ 0 = rw n refl in
          elim (small_or_none f ts name here.1) [ inl small ↦ inl small | inr zero ↦ inr (omega (arith, sum_by-cons (share name) t ts)) ]
    ]

-- a side without large numbers and sums has at most the limit of each name
pub amounts_small : (side : List (List ℕ × ℕ)) → has_large side ≡ false → (name : List ℕ) → amount_in side name ≤ MAX_AMOUNT
amounts_small side h name = elim (small_or_none (amount_in side) side name h) [ inl small ↦ small | inr none ↦ omega arith ]
