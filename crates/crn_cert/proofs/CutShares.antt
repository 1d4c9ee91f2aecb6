-- The share of cuts fits them.
use Rattle.crn_cert.proofs.Prelude.{◌≡◌, ◌⊎◌, ◌≤◌, inl, inr, ℕ, zero, suc, ◌+◌, List, [], ◌∷◌, length, map, take, refl, sym, subst, ◌∙◌, arith, ℤ, pos, AllZip, int_eq, pointwise, signed_items, cases_Bool, firsts, firsts_from, all_in, all_from, in_take, HasAt, IsShareable, number_in, share_of_cuts, SharesFit}

take_few : {A : Type 0} (n : ℕ) (xs : List A) → length (take n xs) ≤ n
take_few zero xs = omega arith
take_few (suc n) [] = omega arith
take_few (suc n) (x ∷ xs) = omega (arith, take_few n xs)

-- the number of a list is 0, or leads to it
record Found (k : ℕ) (ts : List (List ℤ)) (u : List ℤ) : Type 0 where
  i : ℕ
  is : number_in k ts u ≡ k + i
  at : HasAt ts (suc i) u

found_or : (k : ℕ) (ts : List (List ℤ)) (u : List ℤ) → (number_in k ts u ≡ 0) ⊎ Found k ts u
found_or k [] u = inl refl
found_or k (t ∷ ts) u = elim (cases_Bool (pointwise int_eq t u)) [
  | inl hit ↦
      let step : number_in k (t ∷ ts) u ≡ k = rw hit refl in
      let same : k ≡ k + 0 = omega arith in
      inr (record { i = 0; is = step ∙ same; at = (signed_items t u).0 hit })
  | inr miss ↦
      let step : number_in k (t ∷ ts) u ≡ number_in (k + 1) ts u = rw miss refl in
      elim (found_or (k + 1) ts u) [
        | inl none ↦ inl (step ∙ none)
        | inr f ↦ let same : (k + 1) + f.i ≡ k + suc f.i = omega arith in
            inr (record { i = suc f.i; is = step ∙ (f.is ∙ same); at = f.at })
      ]
]

found_there : (ts : List (List ℤ)) (u : List ℤ) → HasAt ts (number_in 1 ts u) u
found_there ts u = elim (found_or 1 ts u) [
  | inl none ↦ subst (λ (n : ℕ). HasAt ts n u) (sym none) tt
  | inr f ↦ let same : 1 + f.i ≡ suc f.i = omega arith in subst (λ (n : ℕ). HasAt ts n u) (sym (f.is ∙ same)) f.at
]

all_found : (ts cuts : List (List ℤ)) → AllZip (HasAt ts) (map (number_in 1 ts) cuts) cuts
all_found ts [] = tt
all_found ts (u ∷ cuts) = (found_there ts u, all_found ts cuts)

pub shares_fit : SharesFit
shares_fit most room cuts h =
    let table : List (List ℤ) = take most (firsts (pointwise int_eq) cuts) in
    record {
      few = take_few most (firsts (pointwise int_eq) cuts);
      lists = all_from (IsShareable room) table (λ y i. all_in (IsShareable room) cuts y h (firsts_from (pointwise int_eq) cuts y (in_take most (firsts (pointwise int_eq) cuts) y i)));
      leaves = all_found table cuts;
    }

-- the trees of questions 14 and 15 of A <-> B: the cuts 0 1, 1 0, 1 1, 1 0, twice
worked : (share_of_cuts 4096 ((pos 0 ∷ pos 1 ∷ []) ∷ (pos 1 ∷ pos 0 ∷ []) ∷ (pos 1 ∷ pos 1 ∷ []) ∷ (pos 1 ∷ pos 0 ∷ []) ∷ (pos 0 ∷ pos 1 ∷ []) ∷ (pos 1 ∷ pos 0 ∷ []) ∷ (pos 1 ∷ pos 1 ∷ []) ∷ (pos 1 ∷ pos 0 ∷ []) ∷ [])).leaf ≡ 1 ∷ 2 ∷ 3 ∷ 2 ∷ 1 ∷ 2 ∷ 3 ∷ 2 ∷ []
worked = refl
