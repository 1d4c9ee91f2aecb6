-- The kinds of a table's problem: at longer prefixes, and at mirrored ones.
use Rattle.crn_vec.proofs.Prelude.{◌≡◌, ℕ, zero, suc, ◌+◌, ◌≤◌, ◌⊎◌, inl, inr, List, [], ◌∷◌, ◌++◌, length, map, drop, take, replicate, Bool, true, false, cond, refl, sym, ap, ap₂, subst, ◌∙◌, arith, get_or, ◌-◌, ◌<◌, ℤ, neg_ℤ, AllZip, ints, false≢true, get_or_append_left, get_or-append_right, get_or-map, get_or-replicate, length-map, length-replicate, Sign, Zero, Plus, Minus, Kind, Pos, Neg, NonNeg, Free, ZeroKind, HasKind, is_signed, one_if, signed_count, kind_at, opposite, mirror, all_zero, product, products, is_plus, is_minus, some_sign, kind_of_sum, column_kind, kind_of_sign, row_kinds, kinds_a_of, kinds_b_of, Mat}
use Rattle.crn_vec.proofs.Mirrors.{length-mirror}

-- ---- lists related place by place

pub zip_append : {A B : Type 0} (R : A → B → Type 0) (xs : List A) (ys : List B) (xs' : List A) (ys' : List B) → AllZip R xs ys → AllZip R xs' ys' → AllZip R (xs ++ xs') (ys ++ ys')
zip_append R [] [] xs' ys' h k = k
zip_append R [] (y ∷ ys) xs' ys' h k = absurd h
zip_append R (x ∷ xs) [] xs' ys' h k = absurd h
zip_append R (x ∷ xs) (y ∷ ys) xs' ys' h k = (h.0, zip_append R xs ys xs' ys' h.1 k)

pub zip_prefix : {A B : Type 0} (R : A → B → Type 0) (xs xs' : List A) (v : List B) → AllZip R (xs ++ xs') v → AllZip R xs (take (length xs) v)
zip_prefix R [] xs' v h = tt
zip_prefix R (x ∷ xs) xs' [] h = absurd h
zip_prefix R (x ∷ xs) xs' (y ∷ v) h = (h.0, zip_prefix R xs xs' v h.1)

pub zip_back : {A B : Type 0} (R : A → B → Type 0) (xs xs' : List A) (v : List B) → AllZip R (xs ++ xs') v → AllZip R xs' (drop (length xs) v)
zip_back R [] xs' v h = h
zip_back R (x ∷ xs) xs' [] h = absurd h
zip_back R (x ∷ xs) xs' (y ∷ v) h = zip_back R xs xs' v h.1

-- kinds that require at least as much, place by place
abbrev pub Refines : Kind → Kind → Type 0
Refines κ' κ = (κ ≡ Free) ⊎ (κ' ≡ κ)

refined : (κ' κ : Kind) (x : ℤ) → Refines κ' κ → HasKind κ' x → HasKind κ x
refined κ' κ x (inl e) h = subst (λ (t : Kind). HasKind t x) (sym e) tt
refined κ' κ x (inr e) h = subst (λ (t : Kind). HasKind t x) e h

pub all_refined : (ks' ks : List Kind) (v : List ℤ) → AllZip Refines ks' ks → AllZip HasKind ks' v → AllZip HasKind ks v
all_refined [] [] v h k = k
all_refined [] (κ ∷ ks) v h k = absurd h
all_refined (κ' ∷ ks') [] v h k = absurd h
all_refined (κ' ∷ ks') (κ ∷ ks) [] h k = absurd k
all_refined (κ' ∷ ks') (κ ∷ ks) (x ∷ v) h k = (refined κ' κ x h.0 k.0, all_refined ks' ks v h.1 k.1)

pub refines_same : (ks : List Kind) → AllZip Refines ks ks
refines_same [] = tt
refines_same (κ ∷ ks) = (inr refl, refines_same ks)

-- ---- longer prefixes

zeros_drop : (n : ℕ) (ss : List Sign) → all_zero ss ≡ true → all_zero (drop n ss) ≡ true
zeros_drop zero ss z = z
zeros_drop (suc n) [] z = refl
zeros_drop (suc n) (Zero ∷ ss) z = zeros_drop n ss z
zeros_drop (suc n) (Plus ∷ ss) z = absurd (false≢true z)
zeros_drop (suc n) (Minus ∷ ss) z = absurd (false≢true z)

zeros_longer : (ss p rest : List Sign) → all_zero (drop (length p) ss) ≡ true → all_zero (drop (length (p ++ rest)) ss) ≡ true
zeros_longer ss [] rest z = zeros_drop (length rest) ss z
zeros_longer [] (t ∷ p) rest z = refl
zeros_longer (s ∷ ss) (t ∷ p) rest z = zeros_longer ss p rest z

zeros_products : (test : Sign → Bool) → test Zero ≡ false → (ss p : List Sign) → all_zero ss ≡ true → some_sign test (products ss p) ≡ false
zeros_products test e [] p z = refl
zeros_products test e (Zero ∷ ss) [] z = refl
zeros_products test e (Zero ∷ ss) (t ∷ p) z = ap (λ (b : Bool). cond b true (some_sign test (products ss p))) e ∙ zeros_products test e ss p z
zeros_products test e (Plus ∷ ss) p z = absurd (false≢true z)
zeros_products test e (Minus ∷ ss) p z = absurd (false≢true z)

products_longer : (test : Sign → Bool) → test Zero ≡ false → (ss p rest : List Sign) → all_zero (drop (length p) ss) ≡ true → some_sign test (products ss (p ++ rest)) ≡ some_sign test (products ss p)
products_longer test e [] p rest z = refl
products_longer test e (s ∷ ss) [] rest z = zeros_products test e (s ∷ ss) rest z
products_longer test e (s ∷ ss) (t ∷ p) rest z = ap (λ (b : Bool). cond (test (product s t)) true b) (products_longer test e ss p rest z)

pub column_longer : (ss p rest : List Sign) → Refines (column_kind ss (p ++ rest)) (column_kind ss p)
column_longer ss p rest = by (all_zero (drop (length p) ss)) refl
  where
    by : (b : Bool) → all_zero (drop (length p) ss) ≡ b → Refines (column_kind ss (p ++ rest)) (column_kind ss p)
    by false z = inl (ap (λ (b : Bool). cond b (kind_of_sum (some_sign is_plus (products ss p)) (some_sign is_minus (products ss p))) Free) z)
    by true z =
        let here : column_kind ss p ≡ kind_of_sum (some_sign is_plus (products ss p)) (some_sign is_minus (products ss p)) = ap (λ (b : Bool). cond b (kind_of_sum (some_sign is_plus (products ss p)) (some_sign is_minus (products ss p))) Free) z in
        let there : column_kind ss (p ++ rest) ≡ kind_of_sum (some_sign is_plus (products ss (p ++ rest))) (some_sign is_minus (products ss (p ++ rest))) = ap (λ (b : Bool). cond b (kind_of_sum (some_sign is_plus (products ss (p ++ rest))) (some_sign is_minus (products ss (p ++ rest)))) Free) (zeros_longer ss p rest z) in
        inr (there ∙ ap₂ kind_of_sum (products_longer is_plus refl ss p rest z) (products_longer is_minus refl ss p rest z) ∙ sym here)

pub columns_longer : (table : List (List Sign)) (p rest : List Sign) → AllZip Refines (map (λ ss. column_kind ss (p ++ rest)) table) (map (λ ss. column_kind ss p) table)
columns_longer [] p rest = tt
columns_longer (ss ∷ table) p rest = (column_longer ss p rest, columns_longer table p rest)

pub rows_longer : (n : ℕ) (p rest : List Sign) → AllZip Refines (row_kinds n (p ++ rest)) (row_kinds n p)
rows_longer zero p rest = tt
rows_longer (suc n) [] [] = (inl refl, rows_longer n [] [])
rows_longer (suc n) [] (t ∷ rest) = (inl refl, rows_longer n [] rest)
rows_longer (suc n) (s ∷ p) rest = (inr refl, rows_longer n p rest)

-- ---- mirrored prefixes

abbrev pub opposite_kind : Kind → Kind
opposite_kind Pos = Neg
opposite_kind Neg = Pos
opposite_kind NonNeg = NonNeg
opposite_kind ZeroKind = ZeroKind
opposite_kind Free = Free

product-opposite : (s t : Sign) → product s (opposite t) ≡ opposite (product s t)
product-opposite Zero t = refl
product-opposite Plus t = refl
product-opposite Minus t = refl

pub plus-opposite : (s : Sign) → is_plus (opposite s) ≡ is_minus s
plus-opposite Zero = refl
plus-opposite Plus = refl
plus-opposite Minus = refl

pub minus-opposite : (s : Sign) → is_minus (opposite s) ≡ is_plus s
minus-opposite Zero = refl
minus-opposite Plus = refl
minus-opposite Minus = refl

some_mirrored : (test test' : Sign → Bool) → ((s : Sign) → test (opposite s) ≡ test' s) → (ss p : List Sign) → some_sign test (products ss (mirror p)) ≡ some_sign test' (products ss p)
some_mirrored test test' h [] p = refl
some_mirrored test test' h (s ∷ ss) [] = refl
some_mirrored test test' h (s ∷ ss) (t ∷ p) = ap₂ (λ (b c : Bool). cond b true c) (ap test (product-opposite s t) ∙ h (product s t)) (some_mirrored test test' h ss p)

pub sum-opposite : (a b : Bool) → kind_of_sum b a ≡ opposite_kind (kind_of_sum a b)
sum-opposite true true = refl
sum-opposite true false = refl
sum-opposite false true = refl
sum-opposite false false = refl

pub cond-opposite : (b : Bool) (κ : Kind) → cond b (opposite_kind κ) Free ≡ opposite_kind (cond b κ Free)
cond-opposite true κ = refl
cond-opposite false κ = refl

pub column_mirrored : (ss p : List Sign) → column_kind ss (mirror p) ≡ opposite_kind (column_kind ss p)
column_mirrored ss p =
    let n : all_zero (drop (length (mirror p)) ss) ≡ all_zero (drop (length p) ss) = ap (λ (k : ℕ). all_zero (drop k ss)) (length-mirror p) in
    let k : kind_of_sum (some_sign is_plus (products ss (mirror p))) (some_sign is_minus (products ss (mirror p))) ≡ opposite_kind (kind_of_sum (some_sign is_plus (products ss p)) (some_sign is_minus (products ss p))) =
    ap₂ kind_of_sum (some_mirrored is_plus is_minus plus-opposite ss p) (some_mirrored is_minus is_plus minus-opposite ss p) ∙ sum-opposite (some_sign is_plus (products ss p)) (some_sign is_minus (products ss p)) in
    ap₂ (λ (b : Bool) (κ : Kind). cond b κ Free) n k ∙ cond-opposite (all_zero (drop (length p) ss)) (kind_of_sum (some_sign is_plus (products ss p)) (some_sign is_minus (products ss p)))

kind_opposite : (κ : Kind) (x : ℤ) → ¬ (κ ≡ NonNeg) → HasKind κ x → HasKind (opposite_kind κ) (neg_ℤ x)
kind_opposite Pos x n h = omega (arith, ints, h)
kind_opposite Neg x n h = omega (arith, ints, h)
kind_opposite NonNeg x n h = absurd (n refl)
kind_opposite ZeroKind x n h = omega (arith, ints, h)
kind_opposite Free x n h = tt

-- the negative of a number of a kind is of the mirrored kind
abbrev pub Mirrored : Kind → Kind → Type 0
Mirrored κ' κ = (x : ℤ) → HasKind κ x → HasKind κ' (neg_ℤ x)

sum_signed : (a b c : Bool) → ¬ (cond c (kind_of_sum a b) Free ≡ NonNeg)
sum_signed a b false e = absurd cc
sum_signed true true true e = absurd cc
sum_signed true false true e = absurd cc
sum_signed false true true e = absurd cc
sum_signed false false true e = absurd cc

column_opposite : (ss p : List Sign) → Mirrored (column_kind ss (mirror p)) (column_kind ss p)
column_opposite ss p x h = subst (λ (κ : Kind). HasKind κ (neg_ℤ x)) (sym (column_mirrored ss p)) (kind_opposite (column_kind ss p) x (sum_signed (some_sign is_plus (products ss p)) (some_sign is_minus (products ss p)) (all_zero (drop (length p) ss))) h)

pub columns_opposite : (table : List (List Sign)) (p : List Sign) → AllZip Mirrored (map (λ ss. column_kind ss (mirror p)) table) (map (λ ss. column_kind ss p) table)
columns_opposite [] p = tt
columns_opposite (ss ∷ table) p = (column_opposite ss p, columns_opposite table p)

pub sign_opposite : (s : Sign) → Mirrored (kind_of_sign (opposite s)) (kind_of_sign s)
sign_opposite Zero x h = omega (arith, ints, h)
sign_opposite Plus x h = omega (arith, ints, h)
sign_opposite Minus x h = omega (arith, ints, h)

pub rows_opposite : (n : ℕ) (p : List Sign) → AllZip Mirrored (row_kinds n (mirror p)) (row_kinds n p)
rows_opposite zero p = tt
rows_opposite (suc n) [] = (λ x h. tt, rows_opposite n [])
rows_opposite (suc n) (s ∷ p) = (sign_opposite s, rows_opposite n p)

pub zeros_opposite : (n : ℕ) → AllZip Mirrored (replicate n ZeroKind) (replicate n ZeroKind)
zeros_opposite zero = tt
zeros_opposite (suc n) = (λ x h. omega (arith, ints, h), zeros_opposite n)

pub frees_opposite : (n : ℕ) → AllZip Mirrored (replicate n Free) (replicate n Free)
frees_opposite zero = tt
frees_opposite (suc n) = (λ x h. tt, frees_opposite n)

pub all_opposite : (ks' ks : List Kind) (v : List ℤ) → AllZip Mirrored ks' ks → AllZip HasKind ks v → AllZip HasKind ks' (map neg_ℤ v)
all_opposite [] [] [] h k = tt
all_opposite [] [] (x ∷ v) h k = absurd k
all_opposite [] (κ ∷ ks) v h k = absurd h
all_opposite (κ' ∷ ks') [] v h k = absurd h
all_opposite (κ' ∷ ks') (κ ∷ ks) [] h k = absurd k
all_opposite (κ' ∷ ks') (κ ∷ ks) (x ∷ v) h k = (h.0 x k.0, all_opposite ks' ks v h.1 k.1)

-- ---- how many there are

pub length-rows : (n : ℕ) (p : List Sign) → length (row_kinds n p) ≡ n
length-rows zero p = refl
length-rows (suc n) [] = ap suc (length-rows n [])
length-rows (suc n) (s ∷ p) = ap suc (length-rows n p)

pub length-columns : (table : List (List Sign)) (p : List Sign) → length (map (λ ss. column_kind ss p) table) ≡ length table
length-columns [] p = refl
length-columns (ss ∷ table) p = ap suc (length-columns table p)

pub one_at_most : (b : Bool) → one_if b ≤ 1
one_at_most true = omega arith
one_at_most false = omega arith

pub count_at_most : (ks : List Kind) → signed_count ks ≤ length ks
count_at_most [] = omega arith
count_at_most (κ ∷ ks) = omega (arith, count_at_most ks, one_at_most (is_signed κ))

pub count-append : (ks qs : List Kind) → signed_count (ks ++ qs) ≡ signed_count ks + signed_count qs
count-append [] qs = omega arith
count-append (κ ∷ ks) qs = omega (arith, count-append ks qs)

pub count_none : (n : ℕ) (κ : Kind) → is_signed κ ≡ false → signed_count (replicate n κ) ≡ 0
count_none zero κ e = refl
count_none (suc n) κ e = omega (arith, count_none n κ e, ap one_if e)

-- there are no products without options
pub products_none : (ss : List Sign) → products ss [] ≡ []
products_none [] = refl
products_none (s ∷ ss) = refl

-- ---- kinds by coordinates

pub column_in_a : (m : Mat) (table : List (List Sign)) (p : List Sign) (k : ℕ) → k < length table → kind_at (kinds_a_of m table p) k ≡ column_kind (get_or table k []) p
column_in_a m table p k lt =
    let f = λ (signs : List Sign). column_kind signs p in
    get_or_append_left (map f table) (replicate (length m.rows) ZeroKind) Free k (omega (arith, lt, length-map table f)) ∙ get_or-map f table k [] Free lt

pub row_in_a : (m : Mat) (table : List (List Sign)) (p : List Sign) (n k : ℕ) → length table ≡ n → n ≤ k → k < n + length m.rows → kind_at (kinds_a_of m table p) k ≡ ZeroKind
row_in_a m table p n k long past lt =
    let f = λ (signs : List Sign). column_kind signs p in
    get_or-append_right (map f table) (replicate (length m.rows) ZeroKind) n k Free (length-map table f ∙ long) past
    ∙ get_or-replicate (length m.rows) (k - n) ZeroKind Free (omega (arith, past, lt))

pub column_in_b : (m : Mat) (p : List Sign) (k : ℕ) → k < m.cols → kind_at (kinds_b_of m p) k ≡ Free
column_in_b m p k lt =
    get_or_append_left (replicate m.cols Free) (row_kinds (length m.rows) p) Free k (omega (arith, lt, length-replicate m.cols Free)) ∙ get_or-replicate m.cols k Free Free lt

pub row_in_b : (m : Mat) (p : List Sign) (k : ℕ) → m.cols ≤ k → kind_at (kinds_b_of m p) k ≡ kind_at (row_kinds (length m.rows) p) (k - m.cols)
row_in_b m p k past = get_or-append_right (replicate m.cols Free) (row_kinds (length m.rows) p) m.cols k Free (length-replicate m.cols Free) past
