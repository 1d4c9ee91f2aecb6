-- Numbers of members by labels that are each at most another number, and sum to as much, are those numbers; a member put into a part.
use Rattle.crn_indep_check.proofs.Prelude.{◌≡◌, ℕ, zero, suc, ◌+◌, ◌<◌, ◌≤◌, ◌==◌, inl, inr, List, [], ◌∷◌, ◌++◌, length, get_or, refl, sym, ap, ◌∙◌, arith, filter, sum, sum_by-cons, IsIn, IsAscending, eq_or, above_in, ascending_tail, IsPart, part_later, counted}

-- ---- numbers by labels

few_counted : (g : ℕ → ℕ) (xs : List ℕ) (k : ℕ) (ns : List ℕ) → ((j l : ℕ) → l ≡ k + j → j < length ns → length (filter (λ x. g x == l) xs) ≤ get_or ns j 0) → counted g xs k (length ns) ≤ sum ns
few_counted g xs k [] h = omega arith
few_counted g xs k (n ∷ ns) h =
    let here : length (filter (λ x. g x == k) xs) ≤ n = h 0 k (omega arith) (omega arith) in
    let rest = few_counted g xs (suc k) ns (λ j l e lt. h (suc j) l (omega (arith, e)) (omega (arith, lt))) in
    omega (arith, here, rest, sum_by-cons (λ (x : ℕ). x) n ns)

pub all_filled : (g : ℕ → ℕ) (xs : List ℕ) (k : ℕ) (ns : List ℕ) → ((j l : ℕ) → l ≡ k + j → j < length ns → length (filter (λ x. g x == l) xs) ≤ get_or ns j 0) → sum ns ≤ counted g xs k (length ns)
    → (j l : ℕ) → l ≡ k + j → j < length ns → get_or ns j 0 ≤ length (filter (λ x. g x == l) xs)
all_filled g xs k [] h e j l q lt = absurd (omega (arith, lt))
all_filled g xs k (n ∷ ns) h e zero l q lt =
    let here : length (filter (λ x. g x == k) xs) ≤ n = h 0 k (omega arith) (omega arith) in
    let rest = few_counted g xs (suc k) ns (λ j l e lt. h (suc j) l (omega (arith, e)) (omega (arith, lt))) in
    let at : length (filter (λ x. g x == l) xs) ≡ length (filter (λ x. g x == k) xs) = ap (λ (m : ℕ). length (filter (λ x. g x == m) xs)) (omega (arith, q)) in
    omega (arith, e, here, rest, at, sum_by-cons (λ (x : ℕ). x) n ns)
all_filled g xs k (n ∷ ns) h e (suc j) l q lt =
    let here : length (filter (λ x. g x == k) xs) ≤ n = h 0 k (omega arith) (omega arith) in
    all_filled g xs (suc k) ns (λ j l e lt. h (suc j) l (omega (arith, e)) (omega (arith, lt))) (omega (arith, e, here, sum_by-cons (λ (x : ℕ). x) n ns)) j l (omega (arith, q)) (omega (arith, lt))

-- ---- a member put into a part

-- where a member of the list is to be put into a part that lacks it
pub record Inserted (xs ys : List ℕ) (r : ℕ) : Type 0 where
  pub left : List ℕ
  pub right : List ℕ
  pub split : xs ≡ left ++ right
  pub is : IsPart (left ++ r ∷ right) ys

later : (xs ys : List ℕ) (r y : ℕ) → Inserted xs ys r → Inserted xs (y ∷ ys) r
later xs ys r y q = record { left = q.left; right = q.right; split = q.split; is = part_later (q.left ++ r ∷ q.right) ys y q.is }

pub inserted : (xs ys : List ℕ) (r : ℕ) → IsPart xs ys → IsIn r ys → (IsIn r xs → ⊥) → Inserted xs ys r
inserted xs [] r h i out = absurd i
inserted [] (y ∷ ys) r h (inl e) out = record { left = []; right = []; split = refl; is = inl (e, tt) }
inserted [] (y ∷ ys) r h (inr i) out = later [] ys r y (inserted [] ys r tt i out)
inserted (x ∷ xs) (y ∷ ys) r (inl h) (inl e) out = absurd (out (inl (e ∙ sym h.0)))
inserted (x ∷ xs) (y ∷ ys) r (inl h) (inr i) out =
    let q = inserted xs ys r h.1 i (λ j. out (inr j)) in
    record { left = x ∷ q.left; right = q.right; split = ap (λ (l : List ℕ). x ∷ l) q.split; is = inl (h.0, q.is) }
inserted (x ∷ xs) (y ∷ ys) r (inr h) (inl e) out = record { left = []; right = x ∷ xs; split = refl; is = inl (e, h) }
inserted (x ∷ xs) (y ∷ ys) r (inr h) (inr i) out = later (x ∷ xs) ys r y (inserted (x ∷ xs) ys r h i out)

-- ---- ascending lists

-- members of an ascending list, in ascending order, are a part of it
pub ascending_part : (xs ys : List ℕ) → IsAscending xs → IsAscending ys → ((r : ℕ) → IsIn r xs → IsIn r ys) → IsPart xs ys
ascending_part [] ys a m i = tt
ascending_part (x ∷ xs) [] a m i = absurd (i x (inl refl))
ascending_part (x ∷ xs) (y ∷ ys) a m i = elim (eq_or x y) as (λ _. IsPart (x ∷ xs) (y ∷ ys)) [
  | inl e ↦ inl (
    e,
    ascending_part xs ys (ascending_tail x xs a) (ascending_tail y ys m) (λ r j.
        elim (i r (inr j)) as (λ _. IsIn r ys) [
          | inl f ↦ absurd (let l = above_in x xs a r j in omega (arith, l, e, f))
          | inr k ↦ k
        ]),
  )
  | inr ne ↦
      let x_in : IsIn x ys = elim (i x (inl refl)) as (λ _. IsIn x ys) [ inl e ↦ absurd (ne e) | inr k ↦ k ] in
      let less : y < x = above_in y ys m x x_in in
      let least : (r : ℕ) → IsIn r (x ∷ xs) → y < r = λ r j. elim j as (λ _. y < r) [ inl e ↦ omega (arith, less, e) | inr k ↦ let l = above_in x xs a r k in omega (arith, less, l) ] in
      inr (ascending_part (x ∷ xs) ys a (ascending_tail y ys m) (λ r j.
      elim (i r j) as (λ _. IsIn r ys) [
        | inl e ↦ absurd (let l = least r j in omega (arith, l, e))
        | inr k ↦ k
      ]))
]
