-- The numbers that pass a test, and the members of a list at these places.
use Rattle.crn_rank.proofs.Prelude.{◌≡◌, ℕ, zero, suc, ◌+◌, ◌<◌, ◌≤◌, inl, inr, Bool, true, false, cond, List, [], ◌∷◌, ◌++◌, length, get_or, map, take, refl, sym, ap, subst, ◌∙◌, arith, add-one, ◌==◌, not, ℤ, AllZip, filter, list_any, cases_Bool, Decides-eqb, length-append, map-append, take_all, filter_more, IsIn, IsAscending, AreDistinct, Mat, in_left, in_right, in_push, in_map, map_in, same_place, eq_or, any_is, any_true, any_false, above_ascending, above_in, ascending_push, zip_push, outside, picked, is_inside}

suc_yes : (p : ℕ → Bool) (k : ℕ) → p k ≡ true → picked p (suc k) ≡ picked p k ++ k ∷ []
suc_yes p k h = ap (λ (b : Bool). cond b (picked p k ++ k ∷ []) (picked p k)) h

suc_no : (p : ℕ → Bool) (k : ℕ) → p k ≡ false → picked p (suc k) ≡ picked p k
suc_no p k h = ap (λ (b : Bool). cond b (picked p k ++ k ∷ []) (picked p k)) h

pub picked_yes : (p : ℕ → Bool) (k : ℕ) → p k ≡ true → picked p (k + 1) ≡ picked p k ++ k ∷ []
picked_yes p k h = rw add-one (suc_yes p k h)

pub picked_no : (p : ℕ → Bool) (k : ℕ) → p k ≡ false → picked p (k + 1) ≡ picked p k
picked_no p k h = rw add-one (suc_no p k h)

pub picked_below : (p : ℕ → Bool) (m q : ℕ) → IsIn q (picked p m) → (q < m) × (p q ≡ true)
picked_below p zero q i = absurd i
picked_below p (suc k) q i = elim (cases_Bool (p k)) as (λ _. (q < suc k) × (p q ≡ true)) [
  | inl yes' ↦ elim (in_push q (picked p k) k (subst (λ (l : List ℕ). IsIn q l) (suc_yes p k yes') i)) as (λ _. (q < suc k) × (p q ≡ true)) [
    | inl j ↦ let r = picked_below p k q j in (omega (arith, r.0), r.1)
    | inr e ↦ (omega (arith, e), ap p e ∙ yes')
  ]
  | inr no' ↦ let r = picked_below p k q (subst (λ (l : List ℕ). IsIn q l) (suc_no p k no') i) in (omega (arith, r.0), r.1)
]

pub picked_has : (p : ℕ → Bool) (m q : ℕ) → q < m → p q ≡ true → IsIn q (picked p m)
picked_has p zero q lt h = absurd (omega (arith, lt))
picked_has p (suc k) q lt h = elim (eq_or q k) as (λ _. IsIn q (picked p (suc k))) [
  | inl e ↦ subst (λ (l : List ℕ). IsIn q l) (sym (suc_yes p k (sym (ap p e) ∙ h))) (in_right q (picked p k) (k ∷ []) (inl e))
  | inr ne ↦
      let rest = picked_has p k q (omega (arith, lt, ne)) h in
      elim (cases_Bool (p k)) as (λ _. IsIn q (picked p (suc k))) [
        | inl yes' ↦ subst (λ (l : List ℕ). IsIn q l) (sym (suc_yes p k yes')) (in_left q (picked p k) (k ∷ []) rest)
        | inr no' ↦ subst (λ (l : List ℕ). IsIn q l) (sym (suc_no p k no')) rest
      ]
]

pub picked_ascending : (p : ℕ → Bool) (m : ℕ) → IsAscending (picked p m)
picked_ascending p zero = tt
picked_ascending p (suc k) = elim (cases_Bool (p k)) as (λ _. IsAscending (picked p (suc k))) [
  | inl yes' ↦ subst IsAscending (sym (suc_yes p k yes')) (ascending_push (picked p k) k (picked_ascending p k) (λ c i. (picked_below p k c i).0))
  | inr no' ↦ subst IsAscending (sym (suc_no p k no')) (picked_ascending p k)
]

-- each number passes the test or fails it
pub picked_count : (p : ℕ → Bool) (m : ℕ) → length (picked p m) + length (picked (λ k. not (p k)) m) ≡ m
picked_count p zero = refl
picked_count p (suc k) =
    let rest = picked_count p k in
    let fails : ℕ → Bool = λ k. not (p k) in
    elim (cases_Bool (p k)) as (λ _. length (picked p (suc k)) + length (picked fails (suc k)) ≡ suc k) [
      | inl yes' ↦ omega (arith, rest, ap length (suc_yes p k yes'), length-append (picked p k) (k ∷ []), ap length (suc_no fails k (ap not yes')))
      | inr no' ↦ omega (arith, rest, ap length (suc_no p k no'), length-append (picked fails k) (k ∷ []), ap length (suc_yes fails k (ap not no')))
    ]

picked_same : (p q : ℕ → Bool) (m : ℕ) → ((k : ℕ) → k < m → p k ≡ q k) → picked p m ≡ picked q m
picked_same p q zero h = refl
picked_same p q (suc k) h =
    let rest = picked_same p q k (λ j lt. h j (omega (arith, lt))) in
    let here = h k (omega arith) in
    elim (cases_Bool (q k)) as (λ _. picked p (suc k) ≡ picked q (suc k)) [
      | inl yes' ↦ suc_yes p k (here ∙ yes') ∙ ap (λ (l : List ℕ). l ++ k ∷ []) rest ∙ sym (suc_yes q k yes')
      | inr no' ↦ suc_no p k (here ∙ no') ∙ rest ∙ sym (suc_no q k no')
    ]

-- what is made of the numbers that pass, with one more
pub map_yes : {B : Type 0} (f : ℕ → B) (p : ℕ → Bool) (k : ℕ) → p k ≡ true → map f (picked p (k + 1)) ≡ map f (picked p k) ++ f k ∷ []
map_yes f p k h = ap (map f) (picked_yes p k h) ∙ map-append f (picked p k) (k ∷ [])

pub map_no : {B : Type 0} (f : ℕ → B) (p : ℕ → Bool) (k : ℕ) → p k ≡ false → map f (picked p (k + 1)) ≡ map f (picked p k)
map_no f p k h = ap (map f) (picked_no p k h)

pub zip_yes : (P : ℕ → List ℤ → Type 0) (p : ℕ → Bool) (ls : List (List ℤ)) (k : ℕ) (l : List ℤ) → p k ≡ true → AllZip P (picked p k) ls → P k l → AllZip P (picked p (k + 1)) (ls ++ l ∷ [])
zip_yes P p ls k l hit h here = subst (λ (ks : List ℕ). AllZip P ks (ls ++ l ∷ [])) (sym (picked_yes p k hit)) (zip_push P (picked p k) ls k l h here)

pub zip_no : (P : ℕ → List ℤ → Type 0) (p : ℕ → Bool) (ls : List (List ℤ)) (k : ℕ) → p k ≡ false → AllZip P (picked p k) ls → AllZip P (picked p (k + 1)) ls
zip_no P p ls k miss h = subst (λ (ks : List ℕ). AllZip P ks ls) (sym (picked_no p k miss)) h

-- ---- members at places

-- an ascending list has no repeat
pub ascending_distinct : (xs : List ℕ) → IsAscending xs → AreDistinct xs
ascending_distinct [] h = tt
ascending_distinct (x ∷ xs) h = (λ i. let l = above_in x xs h x i in omega (arith, l), ascending_distinct xs (above_ascending x xs h))

-- the member at a place
abbrev pub at : List ℕ → ℕ → ℕ
at members k = get_or members k 0

filter_picked : (t : ℕ → Bool) (ms : List ℕ) (m : ℕ) → m ≤ length ms → filter t (take m ms) ≡ map (at ms) (picked (λ k. t (at ms k)) m)
filter_picked t ms zero le = refl
filter_picked t ms (suc k) le =
    let x = at ms k in
    let p : ℕ → Bool = λ k. t (at ms k) in
    let prefix = filter t (take k ms) in
    let more : filter t (take (suc k) ms) ≡ prefix ++ cond (t x) (x ∷ []) [] = ap (λ (n : ℕ). filter t (take n ms)) (let e : suc k ≡ k + 1 = omega arith in e) ∙ filter_more t ms k 0 (omega (arith, le)) in
    let rest = filter_picked t ms k (omega (arith, le)) in
    elim (cases_Bool (t x)) as (λ _. filter t (take (suc k) ms) ≡ map (at ms) (picked p (suc k))) [
      | inl yes' ↦
          more ∙ ap (λ (b : Bool). prefix ++ cond b (x ∷ []) []) yes' ∙ ap (λ (l : List ℕ). l ++ x ∷ []) rest
          ∙ sym (map-append (at ms) (picked p k) (k ∷ [])) ∙ ap (map (at ms)) (sym (suc_yes p k yes'))
      | inr no' ↦
          more ∙ ap (λ (b : Bool). prefix ++ cond b (x ∷ []) []) no' ∙ append_none prefix ∙ rest ∙ ap (map (at ms)) (sym (suc_no p k no'))
    ]
  where
    append_none : (xs : List ℕ) → xs ++ [] ≡ xs
    append_none [] = refl
    append_none (x ∷ xs) = ap (λ (l : List ℕ). x ∷ l) (append_none xs)

-- the members outside the base are those at the places that fail the test
pub outside_picked : (p : ℕ → Bool) (members : List ℕ) → IsAscending members
    → outside (map (at members) (picked p (length members))) members ≡ map (at members) (picked (λ k. not (p k)) (length members))
outside_picked p members up =
    let m = length members in
    let base = map (at members) (picked p m) in
    let t : ℕ → Bool = λ r. not (list_any (λ b. b == r) base) in
    let tests : (k : ℕ) → k < m → list_any (λ b. b == at members k) base ≡ p k = λ k lt.
    elim (any_is (λ b. b == at members k) (at members k) (λ y. Decides-eqb y (at members k)) base) as (λ _. list_any (λ b. b == at members k) base ≡ p k) [
      | inl a ↦
          let r = in_map (at members) (picked p m) (at members k) a.1 in
          let b = picked_below p m r.0 r.1 in
          let same : k ≡ r.0 = same_place members k r.0 0 (ascending_distinct members up) lt b.0 r.2 in
          a.0 ∙ sym b.1 ∙ ap p (sym same)
      | inr b ↦ elim (cases_Bool (p k)) as (λ _. list_any (λ b. b == at members k) base ≡ p k) [
        | inl yes' ↦ absurd (b.1 (map_in (at members) (picked p m) k (picked_has p m k lt yes')))
        | inr no' ↦ b.0 ∙ sym no'
      ]
    ] in
    ap (filter t) (sym (take_all (length members) members (omega arith))) ∙ filter_picked t members m (omega arith) ∙ ap (map (at members)) (picked_same (λ k. t (at members k)) (λ k. not (p k)) m (λ k lt. ap not (tests k lt)))

-- ---- rows whose coordinates are in a basis

pub inside_yes : (a : Mat) (basis : List ℕ) (k : ℕ) → IsIn (a.cols + k) basis → is_inside a basis k ≡ true
inside_yes a basis k i = elim (any_is (λ b. b == (a.cols + k)) (a.cols + k) (λ y. Decides-eqb y (a.cols + k)) basis) as (λ _. is_inside a basis k ≡ true) [ inl h ↦ h.0 | inr h ↦ absurd (h.1 i) ]

pub inside_no : (a : Mat) (basis : List ℕ) (k : ℕ) → ¬ IsIn (a.cols + k) basis → is_inside a basis k ≡ false
inside_no a basis k out = elim (any_is (λ b. b == (a.cols + k)) (a.cols + k) (λ y. Decides-eqb y (a.cols + k)) basis) as (λ _. is_inside a basis k ≡ false) [ inl h ↦ absurd (out h.1) | inr h ↦ h.0 ]

pub inside_in : (a : Mat) (basis : List ℕ) (k : ℕ) → is_inside a basis k ≡ true → IsIn (a.cols + k) basis
inside_in a basis k h = any_true (λ b. b == (a.cols + k)) (a.cols + k) (λ y. Decides-eqb y (a.cols + k)) basis h

pub inside_out : (a : Mat) (basis : List ℕ) (k : ℕ) → is_inside a basis k ≡ false → ¬ IsIn (a.cols + k) basis
inside_out a basis k h = any_false (λ b. b == (a.cols + k)) (a.cols + k) (λ y. Decides-eqb y (a.cols + k)) basis h

-- whether a coordinate is in the basis, as the code tests it
pub asked_yes : (a : Mat) (basis : List ℕ) (first k : ℕ) → first ≡ a.cols → IsIn (first + k) basis → is_inside a basis k ≡ true
asked_yes a basis first k e i = inside_yes a basis k (subst (λ (n : ℕ). IsIn (n + k) basis) e i)

pub asked_no : (a : Mat) (basis : List ℕ) (first k : ℕ) → first ≡ a.cols → ¬ IsIn (first + k) basis → is_inside a basis k ≡ false
asked_no a basis first k e out = inside_no a basis k (λ i. out (subst (λ (n : ℕ). IsIn (n + k) basis) (sym e) i))
