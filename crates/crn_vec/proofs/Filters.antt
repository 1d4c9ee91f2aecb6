-- The members of a list that pass a test: membership, distinct and ascending lists, one member more at the end, and their count.
use Rattle.crn_vec.proofs.Prelude.{◌≡◌, ℕ, Bool, true, false, ◌+◌, ◌≤◌, List, [], ◌∷◌, ◌++◌, length, inl, inr, sym, ap, subst, ◌∙◌, refl, arith, not, count_by, filter, length-append, length-filter_both, length-filter, cases_Bool, IsIn, AreDistinct, IsAbove, IsAscending}
use Rattle.crn_vec.proofs.Ascending.{above_lower, above_ascending}

pub filter_from : {A : Type 0} (p : A → Bool) (xs : List A) (y : A) → IsIn y (filter p xs) → IsIn y xs × (p y ≡ true)
filter_from p [] y h = absurd h
filter_from {A} p (x ∷ xs) y h =
    elim (cases_Bool (p x)) [
      | inl hit ↦
          let step : filter p (x ∷ xs) ≡ x ∷ filter p xs = rw hit refl in
          elim (subst (λ (t : List A). IsIn y t) step h) [
            | inl e ↦ (inl e, ap p e ∙ hit)
            | inr i ↦ let r = filter_from p xs y i in (inr r.0, r.1)
          ]
      | inr miss ↦
          let step : filter p (x ∷ xs) ≡ filter p xs = rw miss refl in
          let r = filter_from p xs y (subst (λ (t : List A). IsIn y t) step h) in (inr r.0, r.1)
    ]

pub filter_has : {A : Type 0} (p : A → Bool) (xs : List A) (y : A) → IsIn y xs → p y ≡ true → IsIn y (filter p xs)
filter_has p [] y h t = absurd h
filter_has {A} p (x ∷ xs) y h t =
    elim (cases_Bool (p x)) [
      | inl hit ↦
          let step : filter p (x ∷ xs) ≡ x ∷ filter p xs = rw hit refl in
          subst (λ (z : List A). IsIn y z) (sym step) (elim h [ inl e ↦ inl e | inr i ↦ inr (filter_has p xs y i t) ])
      | inr miss ↦
          let step : filter p (x ∷ xs) ≡ filter p xs = rw miss refl in
          subst (λ (z : List A). IsIn y z) (sym step) (elim h [ inl e ↦ absurd (let q = ap p e in cc) | inr i ↦ filter_has p xs y i t ])
    ]

pub filter_distinct : {A : Type 0} (p : A → Bool) (xs : List A) → AreDistinct xs → AreDistinct (filter p xs)
filter_distinct p [] h = tt
filter_distinct {A} p (x ∷ xs) h =
    elim (cases_Bool (p x)) [
      | inl hit ↦ rw hit (λ i. h.0 (filter_from p xs x i).0, filter_distinct p xs h.1)
      | inr miss ↦ rw miss (filter_distinct p xs h.1)
    ]

-- the first member stays, or goes
pub first_stays : {A : Type 0} (p : A → Bool) (x : A) (xs : List A) → p x ≡ true → filter p (x ∷ xs) ≡ x ∷ filter p xs
first_stays p x xs h = rw h refl

pub first_goes : {A : Type 0} (p : A → Bool) (x : A) (xs : List A) → p x ≡ false → filter p (x ∷ xs) ≡ filter p xs
first_goes p x xs h = rw h refl

pub filter_yes : (p : ℕ → Bool) (xs : List ℕ) (x : ℕ) → p x ≡ true → filter p (xs ++ x ∷ []) ≡ filter p xs ++ x ∷ []
filter_yes p [] x hit = first_stays p x [] hit
filter_yes p (y ∷ xs) x hit = elim (cases_Bool (p y)) as (λ _. filter p (y ∷ (xs ++ x ∷ [])) ≡ filter p (y ∷ xs) ++ x ∷ []) [
  | inl here ↦ first_stays p y (xs ++ x ∷ []) here ∙ ap (λ (l : List ℕ). y ∷ l) (filter_yes p xs x hit) ∙ ap (λ (l : List ℕ). l ++ x ∷ []) (sym (first_stays p y xs here))
  | inr out ↦ first_goes p y (xs ++ x ∷ []) out ∙ filter_yes p xs x hit ∙ ap (λ (l : List ℕ). l ++ x ∷ []) (sym (first_goes p y xs out))
]

pub filter_no : (p : ℕ → Bool) (xs : List ℕ) (x : ℕ) → p x ≡ false → filter p (xs ++ x ∷ []) ≡ filter p xs
filter_no p [] x miss = first_goes p x [] miss
filter_no p (y ∷ xs) x miss = elim (cases_Bool (p y)) as (λ _. filter p (y ∷ (xs ++ x ∷ [])) ≡ filter p (y ∷ xs)) [
  | inl here ↦ first_stays p y (xs ++ x ∷ []) here ∙ ap (λ (l : List ℕ). y ∷ l) (filter_no p xs x miss) ∙ sym (first_stays p y xs here)
  | inr out ↦ first_goes p y (xs ++ x ∷ []) out ∙ filter_no p xs x miss ∙ sym (first_goes p y xs out)
]

-- ---- how many pass

pub filter_few : {A : Type 0} (p : A → Bool) (xs : List A) → length (filter p xs) ≤ length xs
filter_few {A} p xs = omega (arith, length-filter_both p (λ (x : A). not (p x)) (λ x. refl) xs)

pub count_yes : (p : ℕ → Bool) (xs : List ℕ) (x : ℕ) → p x ≡ true → count_by p (xs ++ x ∷ []) ≡ count_by p xs + 1
count_yes p xs x h = omega (arith, length-filter p (xs ++ x ∷ []), ap length (filter_yes p xs x h), length-append (filter p xs) (x ∷ []), length-filter p xs)

pub count_no : (p : ℕ → Bool) (xs : List ℕ) (x : ℕ) → p x ≡ false → count_by p (xs ++ x ∷ []) ≡ count_by p xs
count_no p xs x h = sym (length-filter p (xs ++ x ∷ [])) ∙ ap length (filter_no p xs x h) ∙ length-filter p xs

-- ---- ascending lists

pub filter_above : (p : ℕ → Bool) (k : ℕ) (xs : List ℕ) → IsAbove k xs → IsAbove k (filter p xs)
filter_above p k [] a = tt
filter_above p k (x ∷ xs) a = elim (cases_Bool (p x)) as (λ _. IsAbove k (filter p (x ∷ xs))) [
  | inl hit ↦ subst (IsAbove k) (sym (first_stays p x xs hit)) (a.0, filter_above p x xs a.1)
  | inr miss ↦ subst (IsAbove k) (sym (first_goes p x xs miss)) (filter_above p k xs (above_lower k x xs a.0 a.1))
]

pub filter_ascending : (p : ℕ → Bool) (xs : List ℕ) → IsAscending xs → IsAscending (filter p xs)
filter_ascending p [] a = tt
filter_ascending p (x ∷ xs) a = elim (cases_Bool (p x)) as (λ _. IsAscending (filter p (x ∷ xs))) [
  | inl hit ↦ subst IsAscending (sym (first_stays p x xs hit)) (filter_above p x xs a)
  | inr miss ↦ subst IsAscending (sym (first_goes p x xs miss)) (filter_ascending p xs (above_ascending x xs a))
]
