-- Ascending lists of numbers, and ranges.
use Rattle.crn_vec.proofs.Prelude.{◌≡◌, ℕ, zero, suc, ◌+◌, ◌<◌, ◌≤◌, List, [], ◌∷◌, ◌++◌, length, get_or, map, inl, inr, refl, sym, ap, ◌∙◌, arith, range_with_len, AllByRecursion, IsIn, IsAbove, IsAscending}
use Rattle.crn_vec.proofs.Lists.{at_in}
use Rattle.crn_vec.proofs.Entries.{eq_or}

pub above_in : (k : ℕ) (xs : List ℕ) → IsAbove k xs → (x : ℕ) → IsIn x xs → k < x
above_in k [] a x i = absurd i
above_in k (y ∷ ys) a x (inl e) = omega (arith, e, a.0)
above_in k (y ∷ ys) a x (inr i) = let h = above_in y ys a.1 x i in omega (arith, h, a.0)

pub above_ascending : (k : ℕ) (xs : List ℕ) → IsAbove k xs → IsAscending xs
above_ascending k [] a = tt
above_ascending k (x ∷ xs) a = a.1

-- a bound below a bound is one
pub above_lower : (k x : ℕ) (xs : List ℕ) → k < x → IsAbove x xs → IsAbove k xs
above_lower k x [] lt a = tt
above_lower k x (y ∷ ys) lt a = (omega (arith, lt, a.0), a.1)

pub ascending_tail : (x : ℕ) (xs : List ℕ) → IsAscending (x ∷ xs) → IsAscending xs
ascending_tail x [] a = tt
ascending_tail x (y ∷ ys) a = a.1

-- a member at a later place is greater
pub ascending_at : (xs : List ℕ) (i j : ℕ) → IsAscending xs → i < j → j < length xs → get_or xs i 0 < get_or xs j 0
ascending_at [] i j a lt inside = absurd (omega (arith, inside))
ascending_at (x ∷ xs) i zero a lt inside = absurd (omega (arith, lt))
ascending_at (x ∷ xs) zero (suc j) a lt inside = above_in x xs a (get_or xs j 0) (at_in xs j 0 (omega (arith, inside)))
ascending_at (x ∷ xs) (suc i) (suc j) a lt inside = ascending_at xs i j (above_ascending x xs a) (omega (arith, lt)) (omega (arith, inside))

-- a greater number at the end
pub above_push : (m : ℕ) (xs : List ℕ) (k : ℕ) → IsAbove m xs → m < k → ((c : ℕ) → IsIn c xs → c < k) → IsAbove m (xs ++ k ∷ [])
above_push m [] k h lt all = (lt, tt)
above_push m (x ∷ xs) k h lt all = (h.0, above_push x xs k h.1 (all x (inl refl)) (λ c i. all c (inr i)))

pub ascending_push : (xs : List ℕ) (k : ℕ) → IsAscending xs → ((c : ℕ) → IsIn c xs → c < k) → IsAscending (xs ++ k ∷ [])
ascending_push [] k h all = tt
ascending_push (x ∷ xs) k h all = above_push x xs k h (all x (inl refl)) (λ c i. all c (inr i))

-- numbers above k and below n are fewer than n - k
pub above_few : (xs : List ℕ) (k n : ℕ) → IsAbove k xs → ((x : ℕ) → IsIn x xs → x < n) → k < n → k + length xs < n
above_few [] k n a h lt = omega (arith, lt)
above_few (x ∷ xs) k n a h lt = let r = above_few xs x n a.1 (λ y i. h y (inr i)) (h x (inl refl)) in omega (arith, r, a.0)

-- two ascending lists of the same members are one
pub same_members : (xs ys : List ℕ) → IsAscending xs → IsAscending ys → ((x : ℕ) → IsIn x xs → IsIn x ys) → ((x : ℕ) → IsIn x ys → IsIn x xs) → xs ≡ ys
same_members [] [] a b to back = refl
same_members [] (y ∷ ys) a b to back = absurd (back y (inl refl))
same_members (x ∷ xs) [] a b to back = absurd (to x (inl refl))
same_members (x ∷ xs) (y ∷ ys) a b to back =
    let same : x ≡ y = elim (to x (inl refl)) as (λ _. x ≡ y) [
      | inl e ↦ e
      | inr i ↦ elim (back y (inl refl)) as (λ _. x ≡ y) [
        | inl e ↦ sym e
        | inr j ↦ absurd (omega (arith, above_in y ys b x i, above_in x xs a y j))
      ]
    ] in
    let rest : xs ≡ ys = same_members xs ys (above_ascending x xs a) (above_ascending y ys b)
    (λ z i. elim (to z (inr i)) as (λ _. IsIn z ys) [ inl e ↦ absurd (omega (arith, above_in x xs a z i, e, same)) | inr j ↦ j ])
    (λ z i. elim (back z (inr i)) as (λ _. IsIn z xs) [ inl e ↦ absurd (omega (arith, above_in y ys b z i, e, same)) | inr j ↦ j ]) in
    ap (λ (w : ℕ). w ∷ xs) same ∙ ap (λ (ws : List ℕ). y ∷ ws) rest

-- ---- numbers counted from 1

pub above_suc : (k : ℕ) (xs : List ℕ) → IsAbove k xs → IsAbove (suc k) (map suc xs)
above_suc k [] h = tt
above_suc k (x ∷ xs) h = (omega (arith, h.0), above_suc x xs h.1)

pub ascending_suc : (xs : List ℕ) → IsAscending xs → IsAscending (map suc xs)
ascending_suc [] h = tt
ascending_suc (x ∷ xs) h = above_suc x xs h

pub above_zero : (xs : List ℕ) → IsAscending xs → IsAbove 0 (map suc xs)
above_zero [] h = tt
above_zero (x ∷ xs) h = (omega arith, above_suc x xs h)

-- ---- ranges

pub range_above : (k a n : ℕ) → k < a → IsAbove k (range_with_len a n)
range_above k a zero lt = tt
range_above k a (suc n) lt = (lt, range_above a (a + 1) n (omega arith))

pub range_ascending : (a n : ℕ) → IsAscending (range_with_len a n)
range_ascending a zero = tt
range_ascending a (suc n) = range_above a (a + 1) n (omega arith)

pub range_bounds : (r a n : ℕ) → IsIn r (range_with_len a n) → (a ≤ r) × (r < a + n)
range_bounds r a zero i = absurd i
range_bounds r a (suc n) (inl e) = (omega (arith, e), omega (arith, e))
range_bounds r a (suc n) (inr i) = let h = range_bounds r (a + 1) n i in (omega (arith, h.0), omega (arith, h.1))

pub all_range : {A : Type 0} (P : A → Type 0) (f : ℕ → A) (a n : ℕ) → ((k : ℕ) → a ≤ k → k < a + n → P (f k)) → AllByRecursion P (map f (range_with_len a n))
all_range P f a zero h = tt
all_range P f a (suc n) h = (h a (omega arith) (omega arith), all_range P f (a + 1) n (λ k l m. h k (omega (arith, l)) (omega (arith, m))))

pub in_range : (x a n : ℕ) → a ≤ x → x < a + n → IsIn x (range_with_len a n)
in_range x a zero l m = absurd (omega (arith, l, m))
in_range x a (suc n) l m = elim (eq_or x a) [ inl e ↦ inl e | inr ne ↦ inr (in_range x (a + 1) n (after x a l ne) (omega (arith, m))) ]
  where
    after : (x a : ℕ) → a ≤ x → (x ≡ a → ⊥) → a + 1 ≤ x
    after zero zero l ne = absurd (ne refl)
    after (suc x) zero l ne = omega arith
    after zero (suc a) l ne = absurd (omega (arith, l))
    after (suc x) (suc a) l ne = let h = after x a (omega (arith, l)) (λ e. ne (ap suc e)) in omega (arith, h)

pub range_more : (a n j : ℕ) → a + n ≡ j → range_with_len a (n + 1) ≡ range_with_len a n ++ j ∷ []
range_more a zero j e = ap (λ (k : ℕ). k ∷ []) (let f : a ≡ j = omega (arith, e) in f)
range_more a (suc n) j e =
    let same : suc n + 1 ≡ suc (n + 1) = omega arith in
    let more : range_with_len a (suc n + 1) ≡ range_with_len a (suc (n + 1)) = ap (range_with_len a) same in
    more ∙ ap (λ (l : List ℕ). a ∷ l) (range_more (a + 1) n j (omega (arith, e)))
