-- Lists by their entries: which places are inside, lists related place by place, and dot products of one entry more.
use Rattle.crn_vec.proofs.Prelude.{◌≡◌, ◌≢◌, ℕ, zero, suc, ◌+◌, ◌-◌, ◌<◌, ◌≤◌, ◌⊎◌, inl, inr, List, [], ◌∷◌, ◌++◌, length, map, get_or, take, set, refl, sym, ap, ap₂, ◌∙◌, add-one, arith, ℤ, pos, ◌+ℤ◌, ◌*ℤ◌, unsigned_abs, nat_abs, slice_index, AllZip, ints, get_or-map, length-map, take_more, entry, dot, AreWithin}

pub past_end : (v : List ℤ) (k : ℕ) → length v ≤ k → entry v k ≡ pos 0
past_end [] k h = refl
past_end (x ∷ v) zero h = absurd (omega arith)
past_end (x ∷ v) (suc k) h = past_end v k (omega arith)

-- each place is inside or past the end
pub inside_or : {A : Type 0} (xs : List A) (k : ℕ) → (k < length xs) ⊎ (length xs ≤ k)
inside_or [] k = inr (omega arith)
inside_or (x ∷ xs) zero = inl (omega arith)
inside_or (x ∷ xs) (suc k) = elim (inside_or xs k) [ inl h ↦ inl (omega arith) | inr h ↦ inr (omega arith) ]

pub lt_or : (s n : ℕ) → (s < n) ⊎ (n ≤ s)
lt_or s zero = inr (omega arith)
lt_or zero (suc n) = inl (omega arith)
lt_or (suc s) (suc n) = elim (lt_or s n) [ inl h ↦ inl (omega arith) | inr h ↦ inr (omega arith) ]

pub eq_or : (i j : ℕ) → (i ≡ j) ⊎ (i ≢ j)
eq_or zero zero = inl refl
eq_or zero (suc j) = inr (λ e. omega arith)
eq_or (suc i) zero = inr (λ e. omega arith)
eq_or (suc i) (suc j) = elim (eq_or i j) [ inl e ↦ inl (ap suc e) | inr ne ↦ inr (λ e. ne (omega arith)) ]

pub below_or : (k n : ℕ) → k < suc n → (k < n) ⊎ (k ≡ n)
below_or zero zero h = inr refl
below_or zero (suc n) h = inl (omega arith)
below_or (suc k) zero h = absurd (omega (arith, h))
below_or (suc k) (suc n) h = elim (below_or k n (omega (arith, h))) [ inl l ↦ inl (omega (arith, l)) | inr e ↦ inr (ap suc e) ]

-- the place before the next one
pub before_one : (k : ℕ) → k + 1 - 1 ≡ k
before_one k = omega arith

-- what holds of 0 and of 1 holds of each number below 2
pub below_two : (P : ℕ → Type 0) → P 0 → P 1 → (n : ℕ) → n < 2 → P n
below_two P p q zero h = p
below_two P p q (suc zero) h = q
below_two P p q (suc (suc n)) h = absurd (omega (arith, h))

-- a list in which one place was set, place by place
pub look_at : (v : List ℕ) (c k x : ℕ) → c < length v → ((k ≡ c) × (slice_index (set v c x) k ≡ x)) ⊎ ((k ≢ c) × (slice_index (set v c x) k ≡ slice_index v k))
look_at [] c k x h = absurd (omega arith)
look_at (y ∷ v) zero zero x h = inl (refl, refl)
look_at (y ∷ v) zero (suc k) x h = inr ((λ e. omega arith), refl)
look_at (y ∷ v) (suc c) zero x h = inr ((λ e. omega arith), refl)
look_at (y ∷ v) (suc c) (suc k) x h = elim (look_at v c k x (omega arith)) [
  | inl r ↦ inl (ap suc r.0, r.1)
  | inr r ↦ inr ((λ e. r.0 (omega arith)), r.1)
]

-- numbers without a sign come back from numbers with one
pub abs_back : (xs : List ℕ) → map nat_abs (map pos xs) ≡ xs
abs_back [] = refl
abs_back (x ∷ xs) = ap (λ (t : List ℕ). x ∷ t) (abs_back xs)

-- two lists as long, related place by place
pub zip_from : {A B : Type 0} (R : A → B → Type 0) (d : A) (e : B) (xs : List A) (ys : List B) → length ys ≡ length xs
    → ((k : ℕ) → k < length xs → R (get_or xs k d) (get_or ys k e)) → AllZip R xs ys
zip_from R d e [] [] l h = tt
zip_from R d e [] (y ∷ ys) l h = absurd (omega arith)
zip_from R d e (x ∷ xs) [] l h = absurd (omega arith)
zip_from R d e (x ∷ xs) (y ∷ ys) l h = (h 0 (omega arith), zip_from R d e xs ys (omega arith) (λ k lt. h (suc k) (omega arith)))

pub zip_at : {A B : Type 0} (R : A → B → Type 0) (d : A) (e : B) (xs : List A) (ys : List B) → AllZip R xs ys → (k : ℕ) → k < length xs → R (get_or xs k d) (get_or ys k e)
zip_at R d e [] ys h k lt = absurd (omega arith)
zip_at R d e (x ∷ xs) [] h k lt = absurd h
zip_at R d e (x ∷ xs) (y ∷ ys) h zero lt = h.0
zip_at R d e (x ∷ xs) (y ∷ ys) h (suc k) lt = zip_at R d e xs ys h.1 k (omega arith)

pub zip_long : {A B : Type 0} (R : A → B → Type 0) (xs : List A) (ys : List B) → AllZip R xs ys → length ys ≡ length xs
zip_long R [] [] h = refl
zip_long R [] (y ∷ ys) h = absurd h
zip_long R (x ∷ xs) [] h = absurd h
zip_long R (x ∷ xs) (y ∷ ys) h = omega (arith, zip_long R xs ys h.1)

pub within_from : (m : ℕ) (v : List ℤ) → ((k : ℕ) → k < length v → unsigned_abs (entry v k) ≤ m) → AreWithin m v
within_from m [] h = tt
within_from m (x ∷ v) h = (h 0 (omega arith), within_from m v (λ k lt. h (suc k) (omega arith)))

dot_suc : (v w : List ℤ) (k : ℕ) → k < length v → k < length w → dot (take (suc k) v) (take (suc k) w) ≡ dot (take k v) (take k w) +ℤ (entry v k *ℤ entry w k)
dot_suc [] w k h g = absurd (omega arith)
dot_suc (x ∷ v) [] k h g = absurd (omega arith)
dot_suc (x ∷ v) (y ∷ w) zero h g = omega (arith, ints)
dot_suc (x ∷ v) (y ∷ w) (suc k) h g = omega (arith, ints, dot_suc v w k (omega arith) (omega arith))

-- the dot product of the first entries, with one more
pub dot_step : (v w : List ℤ) (k : ℕ) → k < length v → k < length w → dot (take (k + 1) v) (take (k + 1) w) ≡ dot (take k v) (take k w) +ℤ (entry v k *ℤ entry w k)
dot_step v w k h g = rw add-one (dot_suc v w k h g)

-- a sum and a product that are known, together
pub next_sum : {s p d e : ℤ} → s ≡ d → p ≡ e → d +ℤ e ≡ s +ℤ p
next_sum f g = ap₂ (λ (x y : ℤ). x +ℤ y) (sym f) (sym g)

-- ---- one place more

pub zip_push : {A B : Type 0} (R : A → B → Type 0) (xs : List A) (ys : List B) (x : A) (y : B) → AllZip R xs ys → R x y → AllZip R (xs ++ x ∷ []) (ys ++ y ∷ [])
zip_push R [] [] x y h r = (r, tt)
zip_push R [] (b ∷ ys) x y h r = absurd h
zip_push R (a ∷ xs) [] x y h r = absurd h
zip_push R (a ∷ xs) (b ∷ ys) x y h r = (h.0, zip_push R xs ys x y h.1 r)

-- one place more of a list that is map_more
pub map_more : {X Y : Type 0} (f : X → Y) (xs : List X) (i : ℕ) (d : X) (done next : List Y) (y : Y) → i < length xs → done ≡ take i (map f xs) → next ≡ done ++ y ∷ [] → y ≡ f (get_or xs i d) → next ≡ take (i + 1) (map f xs)
map_more f xs i d done next y lt h n e =
    n ∙ ap₂ (λ l z. l ++ z ∷ []) h (e ∙ sym (get_or-map f xs i d (f d) lt)) ∙ sym (take_more (map f xs) i (f d) (omega (arith, lt, length-map xs f)))
