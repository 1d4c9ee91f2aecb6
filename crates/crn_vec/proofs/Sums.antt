-- Dot products, and combinations of rows.
use Rattle.crn_vec.proofs.Prelude.{◌≡◌, ◌≢◌, ℕ, zero, suc, ◌<◌, List, [], ◌∷◌, length, get_or, take, drop, refl, sym, ap, arith, ℤ, pos, ◌+ℤ◌, ◌*ℤ◌, ints, entry, dot, scale, column, AreOfLength}
use lib.IntN.{*ℤ_comm, *ℤ-zero, zero-*ℤ}
use Rattle.crn_vec.proofs.Ring.{distrib, distrib-right, assoc}

pub dot-comm : (xs ys : List ℤ) → dot xs ys ≡ dot ys xs
dot-comm [] [] = refl
dot-comm [] (y ∷ ys) = refl
dot-comm (x ∷ xs) [] = refl
dot-comm (x ∷ xs) (y ∷ ys) = omega (arith, ints, dot-comm xs ys, *ℤ_comm x y)

pub dot_none : (v : List ℤ) → dot v [] ≡ pos 0
dot_none [] = refl
dot_none (x ∷ v) = refl

pub dot_zero : (v w : List ℤ) → ((i : ℕ) → entry v i *ℤ entry w i ≡ pos 0) → dot v w ≡ pos 0
dot_zero [] w h = refl
dot_zero (x ∷ v) [] h = refl
dot_zero (x ∷ v) (y ∷ w) h = omega (arith, ints, h 0, dot_zero v w (λ i. h (suc i)))

-- all products but that at k are 0
pub dot_single : (v w : List ℤ) (k : ℕ) → ((i : ℕ) → i ≢ k → entry v i *ℤ entry w i ≡ pos 0) → dot v w ≡ entry v k *ℤ entry w k
dot_single [] w k h = sym (zero-*ℤ (entry w k))
dot_single (x ∷ v) [] k h = sym (*ℤ-zero (entry (x ∷ v) k))
dot_single (x ∷ v) (y ∷ w) zero h = omega (arith, ints, dot_zero v w (λ i. h (suc i) (λ e. omega arith)))
dot_single (x ∷ v) (y ∷ w) (suc k) h =
    omega (arith, ints, h 0 (λ e. omega arith), dot_single v w k (λ i ne. h (suc i) (λ e. ne (omega arith))))

-- all products but those at c and d are 0
pub dot_two : (v w : List ℤ) (c d : ℕ) → c ≢ d → ((i : ℕ) → i ≢ c → i ≢ d → entry v i *ℤ entry w i ≡ pos 0) → dot v w ≡ (entry v c *ℤ entry w c) +ℤ (entry v d *ℤ entry w d)
dot_two [] w c d ne h = omega (arith, ints, zero-*ℤ (entry w c), zero-*ℤ (entry w d))
dot_two (x ∷ v) [] c d ne h = omega (arith, ints, *ℤ-zero (entry (x ∷ v) c), *ℤ-zero (entry (x ∷ v) d))
dot_two (x ∷ v) (y ∷ w) zero zero ne h = absurd (ne refl)
dot_two (x ∷ v) (y ∷ w) zero (suc d) ne h = omega (arith, ints, dot_single v w d (λ i n. h (suc i) (λ e. omega arith) (λ e. n (omega (arith, e)))))
dot_two (x ∷ v) (y ∷ w) (suc c) zero ne h = omega (arith, ints, dot_single v w c (λ i n. h (suc i) (λ e. n (omega (arith, e))) (λ e. omega arith)))
dot_two (x ∷ v) (y ∷ w) (suc c) (suc d) ne h =
    omega (arith, ints, h 0 (λ e. omega arith) (λ e. omega arith), dot_two v w c d (λ e. ne (ap suc e)) (λ i m n. h (suc i) (λ e. m (omega (arith, e))) (λ e. n (omega (arith, e)))))

pub dot_split : (n : ℕ) (v w : List ℤ) → dot v w ≡ dot (take n v) (take n w) +ℤ dot (drop n v) (drop n w)
dot_split zero v w = omega (arith, ints)
dot_split (suc n) [] w = omega (arith, ints)
dot_split (suc n) (x ∷ v) [] = omega (arith, ints, dot_none (drop n v))
dot_split (suc n) (x ∷ v) (y ∷ w) = omega (arith, ints, dot_split n v w)

abbrev pub plus : List ℤ → List ℤ → List ℤ
plus [] ys = []
plus (x ∷ xs) [] = []
plus (x ∷ xs) (y ∷ ys) = (x +ℤ y) ∷ plus xs ys

abbrev pub zeros : ℕ → List ℤ
zeros zero = []
zeros (suc k) = pos 0 ∷ zeros k

-- u A, for rows of n entries
abbrev pub comb : ℕ → List ℤ → List (List ℤ) → List ℤ
comb n [] rows = zeros n
comb n (u ∷ us) [] = zeros n
comb n (u ∷ us) (r ∷ rows) = plus (scale u r) (comb n us rows)

abbrev pub dots : List (List ℤ) → List ℤ → List ℤ
dots [] x = []
dots (r ∷ rows) x = dot r x ∷ dots rows x

pub length-scale : (a : ℤ) (xs : List ℤ) → length (scale a xs) ≡ length xs
length-scale a [] = refl
length-scale a (x ∷ xs) = omega (arith, length-scale a xs)

pub take-scale : (q : ℤ) (n : ℕ) (v : List ℤ) → take n (scale q v) ≡ scale q (take n v)
take-scale q zero v = refl
take-scale q (suc n) [] = refl
take-scale q (suc n) (x ∷ v) = ap (λ (t : List ℤ). (q *ℤ x) ∷ t) (take-scale q n v)

pub length-plus : (xs ys : List ℤ) → length xs ≡ length ys → length (plus xs ys) ≡ length xs
length-plus [] ys e = refl
length-plus (x ∷ xs) [] e = absurd (omega arith)
length-plus (x ∷ xs) (y ∷ ys) e = let h : length xs ≡ length ys = omega arith in omega (arith, length-plus xs ys h)

pub length-zeros : (k : ℕ) → length (zeros k) ≡ k
length-zeros zero = refl
length-zeros (suc k) = omega (arith, length-zeros k)

pub take-zeros : (n m : ℕ) → (k : ℕ) × (take n (zeros m) ≡ zeros k)
take-zeros zero m = (0, refl)
take-zeros (suc n) zero = (0, refl)
take-zeros (suc n) (suc m) = let t = take-zeros n m in (suc t.0, ap (λ (l : List ℤ). pos 0 ∷ l) t.1)

pub length-comb : (n : ℕ) (us : List ℤ) (rows : List (List ℤ)) → AreOfLength n rows → length (comb n us rows) ≡ n
length-comb n [] rows w = length-zeros n
length-comb n (u ∷ us) [] w = length-zeros n
length-comb n (u ∷ us) (r ∷ rows) w =
    let h : length (scale u r) ≡ length (comb n us rows) = omega (arith, w.0, length-scale u r, length-comb n us rows w.1) in
    omega (arith, w.0, length-plus (scale u r) (comb n us rows) h, length-scale u r)

pub dot-scale : (a : ℤ) (xs ys : List ℤ) → dot (scale a xs) ys ≡ a *ℤ dot xs ys
dot-scale a [] ys = omega (arith, ints, *ℤ-zero a)
dot-scale a (x ∷ xs) [] = omega (arith, ints, *ℤ-zero a)
dot-scale a (x ∷ xs) (y ∷ ys) = omega (arith, ints, dot-scale a xs ys, distrib a (x *ℤ y) (dot xs ys), assoc a x y)

pub dot-plus : (xs ys zs : List ℤ) → length xs ≡ length ys → dot (plus xs ys) zs ≡ dot xs zs +ℤ dot ys zs
dot-plus [] [] zs e = omega (arith, ints)
dot-plus [] (y ∷ ys) zs e = absurd (omega arith)
dot-plus (x ∷ xs) [] zs e = absurd (omega arith)
dot-plus (x ∷ xs) (y ∷ ys) [] e = omega (arith, ints)
dot-plus (x ∷ xs) (y ∷ ys) (z ∷ zs) e =
    let h : length xs ≡ length ys = omega arith in
    omega (arith, ints, dot-plus xs ys zs h, distrib-right x y z)

pub zeros-dot : (k : ℕ) (x : List ℤ) → dot (zeros k) x ≡ pos 0
zeros-dot zero x = refl
zeros-dot (suc k) [] = refl
zeros-dot (suc k) (y ∷ x) = omega (arith, ints, zeros-dot k x, zero-*ℤ y)

-- u (A x) = (u A) x
pub transposed : (n : ℕ) (us x : List ℤ) (rows : List (List ℤ)) → AreOfLength n rows → dot us (dots rows x) ≡ dot (comb n us rows) x
transposed n [] x rows w = omega (arith, ints, zeros-dot n x)
transposed n (u ∷ us) x [] w = omega (arith, ints, zeros-dot n x)
transposed n (u ∷ us) x (r ∷ rows) w =
    let h : length (scale u r) ≡ length (comb n us rows) = omega (arith, w.0, length-scale u r, length-comb n us rows w.1) in
    omega (arith, ints, transposed n us x rows w.1, dot-plus (scale u r) (comb n us rows) x h, dot-scale u r x)

pub entry-zeros : (n j : ℕ) → entry (zeros n) j ≡ pos 0
entry-zeros zero j = refl
entry-zeros (suc n) zero = refl
entry-zeros (suc n) (suc j) = entry-zeros n j

pub entry-scale : (a : ℤ) (xs : List ℤ) (j : ℕ) → entry (scale a xs) j ≡ a *ℤ entry xs j
entry-scale a [] j = sym (*ℤ-zero a)
entry-scale a (x ∷ xs) zero = refl
entry-scale a (x ∷ xs) (suc j) = entry-scale a xs j

pub entry-plus : (xs ys : List ℤ) (j : ℕ) → length xs ≡ length ys → entry (plus xs ys) j ≡ entry xs j +ℤ entry ys j
entry-plus [] [] j e = refl
entry-plus [] (y ∷ ys) j e = absurd (omega arith)
entry-plus (x ∷ xs) [] j e = absurd (omega arith)
entry-plus (x ∷ xs) (y ∷ ys) zero e = refl
entry-plus (x ∷ xs) (y ∷ ys) (suc j) e = entry-plus xs ys j (omega arith)

-- the entries of u A
pub entry-comb : (n : ℕ) (us : List ℤ) (rows : List (List ℤ)) (j : ℕ) → AreOfLength n rows → entry (comb n us rows) j ≡ dot us (column rows j)
entry-comb n [] rows j w = entry-zeros n j
entry-comb n (u ∷ us) [] j w = entry-zeros n j
entry-comb n (u ∷ us) (r ∷ rows) j w =
    let h : length (scale u r) ≡ length (comb n us rows) = omega (arith, w.0, length-scale u r, length-comb n us rows w.1) in
    omega (arith, ints, entry-plus (scale u r) (comb n us rows) j h, entry-scale u r j, entry-comb n us rows j w.1)

pub entry-dots : (rows : List (List ℤ)) (x : List ℤ) (i : ℕ) → i < length rows → entry (dots rows x) i ≡ dot (get_or rows i []) x
entry-dots [] x i h = absurd (omega arith)
entry-dots (r ∷ rows) x zero h = refl
entry-dots (r ∷ rows) x (suc i) h = entry-dots rows x i (omega arith)

pub length-dots : (rows : List (List ℤ)) (x : List ℤ) → length (dots rows x) ≡ length rows
length-dots [] x = refl
length-dots (r ∷ rows) x = omega (arith, length-dots rows x)
