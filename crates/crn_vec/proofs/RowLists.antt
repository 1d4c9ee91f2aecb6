-- Rows of a list that holds them one after another.
use Rattle.crn_vec.proofs.Prelude.{◌≡◌, ℕ, zero, suc, ◌+◌, ◌*◌, ◌<◌, ◌≤◌, inl, inr, List, [], ◌∷◌, ◌++◌, length, map, get_or, take, drop, refl, sym, ap, ap₂, ◌∙◌, arith, ℤ, pos, negsuc, unsigned_abs, AllByRecursion, flat_map, ints, take-append_seam, length-append, drop-drop, length-drop, length-take-le, suc-mul, mul-le-mul_right, MAX_AMOUNT, IsIn, IsAmount, rows_of, entry, AreWithin, AreOfLength}

pub length-rows_of : (m n : ℕ) (xs : List ℤ) → length (rows_of m n xs) ≡ m
length-rows_of zero n xs = refl
length-rows_of (suc m) n xs = omega (arith, length-rows_of m n (drop n xs))

pub row_at : (m n : ℕ) (xs : List ℤ) (i : ℕ) → i < m → get_or (rows_of m n xs) i [] ≡ take n (drop (i * n) xs)
row_at zero n xs i h = absurd (omega arith)
row_at (suc m) n xs zero h = ap (λ k. take n (drop k xs)) (let e : 0 ≡ 0 * n = omega arith in e)
row_at (suc m) n xs (suc i) h =
    let e : n + i * n ≡ suc i * n = omega (arith, suc-mul i n) in
    row_at m n (drop n xs) i (omega arith) ∙ ap (take n) (drop-drop (i * n) n xs) ∙ ap (λ k. take n (drop k xs)) e

pub row_inside : (m n i : ℕ) → i < m → i * n + n ≤ m * n
row_inside m n i h = omega (arith, suc-mul i n, mul-le-mul_right n (let le : suc i ≤ m = omega arith in le))

pub within_drop : (m k : ℕ) (xs : List ℤ) → AreWithin m xs → AreWithin m (drop k xs)
within_drop m zero xs h = h
within_drop m (suc k) [] h = h
within_drop m (suc k) (x ∷ xs) h = within_drop m k xs h.1

pub within_take : (m k : ℕ) (xs : List ℤ) → AreWithin m xs → AreWithin m (take k xs)
within_take m zero xs h = tt
within_take m (suc k) [] h = tt
within_take m (suc k) (x ∷ xs) h = (h.0, within_take m k xs h.1)

-- each row has so many entries
pub rows_of_length : (m n : ℕ) (xs : List ℤ) → length xs ≡ m * n → AreOfLength n (rows_of m n xs)
rows_of_length zero n xs e = tt
rows_of_length (suc m) n xs e = (length-take-le n xs (omega (arith, suc-mul m n)), rows_of_length m n (drop n xs) (omega (arith, length-drop n xs, suc-mul m n)))

pub within_at : (m k : ℕ) (xs : List ℤ) → AreWithin m xs → unsigned_abs (entry xs k) ≤ m
within_at m k [] h = omega arith
within_at m zero (x ∷ xs) h = h.0
within_at m (suc k) (x ∷ xs) h = within_at m k xs h.1

pub within_rows : (b m n : ℕ) (xs : List ℤ) (i : ℕ) → AreWithin b xs → AreWithin b (get_or (rows_of m n xs) i [])
within_rows b zero n xs i h = tt
within_rows b (suc m) n xs zero h = within_take b n xs h
within_rows b (suc m) n xs (suc i) h = within_rows b m n (drop n xs) i (within_drop b n xs h)

pub within_append : (m : ℕ) (xs ys : List ℤ) → AreWithin m xs → AreWithin m ys → AreWithin m (xs ++ ys)
within_append m [] ys h g = g
within_append m (x ∷ xs) ys h g = (h.0, within_append m xs ys h.1 g)

-- amounts are within the limit of amounts
pub amounts_within : (v : List ℤ) → AllByRecursion IsAmount v → AreWithin MAX_AMOUNT v
amounts_within [] h = tt
amounts_within (pos n ∷ v) h = (omega (arith, ints, h.0.1), amounts_within v h.1)
amounts_within (negsuc n ∷ v) h = absurd (omega (arith, ints, h.0.0))

-- ---- lists of equal lengths one after another

pub row_count : (n : ℕ) (rows : List (List ℤ)) (i : ℕ) → AreOfLength n rows → i < length rows → length (get_or rows i []) ≡ n
row_count n [] i w lt = absurd (omega arith)
row_count n (r ∷ rows) zero w lt = w.0
row_count n (r ∷ rows) (suc i) w lt = row_count n rows i w.1 (omega arith)

pub drop_seam : {A : Type 0} (xs ys : List A) → drop (length xs) (xs ++ ys) ≡ ys
drop_seam [] ys = refl
drop_seam (x ∷ xs) ys = drop_seam xs ys

pub length-rows_after : {A : Type 0} (n : ℕ) (f : A → List ℤ) (rs : List A) → ((r : A) → IsIn r rs → length (f r) ≡ n) → length (flat_map f rs) ≡ length rs * n
length-rows_after n f [] h = omega arith
length-rows_after n f (r ∷ rs) h = omega (arith, length-append (f r) (flat_map f rs), h r (inl refl), length-rows_after n f rs (λ q i. h q (inr i)), suc-mul (length rs) n)

-- the rows of lists one after another are these lists
pub rows_after : {A : Type 0} (n : ℕ) (f : A → List ℤ) (rs : List A) → ((r : A) → IsIn r rs → length (f r) ≡ n) → rows_of (length rs) n (flat_map f rs) ≡ map f rs
rows_after n f [] h = refl
rows_after n f (r ∷ rs) h =
    let long = h r (inl refl) in
    let first : take n (f r ++ flat_map f rs) ≡ f r = ap (λ (k : ℕ). take k (f r ++ flat_map f rs)) (sym long) ∙ take-append_seam (f r) (flat_map f rs) in
    let rest : drop n (f r ++ flat_map f rs) ≡ flat_map f rs = ap (λ (k : ℕ). drop k (f r ++ flat_map f rs)) (sym long) ∙ drop_seam (f r) (flat_map f rs) in
    ap₂ (λ (x : List ℤ) (t : List (List ℤ)). x ∷ t) first (ap (rows_of (length rs) n) rest ∙ rows_after n f rs (λ q i. h q (inr i)))
