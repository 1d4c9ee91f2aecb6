-- The kinds of the coordinates of a part at a prefix.
use Rattle.crn_ctree.proofs.Prelude.{◌≡◌, ℕ, zero, suc, ◌-◌, ◌<◌, ◌≤◌, List, [], ◌∷◌, length, map, get_or, take, drop, Bool, true, false, cond, refl, sym, ap, ap₂, ◌∙◌, arith, ℤ, pos, negsuc, neg_ℤ, ◌-ℤ◌, ◌||◌, ints, get_or-map, length-map, Sign, Zero, Plus, Minus, Kind, Free, Net, minus, sides_of, reaction_vector, opposite, all_zero, sign, product, products, is_plus, is_minus, some_sign, kind_of_sum, column_kind, strong_table, plus-opposite, minus-opposite, sum-opposite, cond-opposite, products_none, reaction_system, problem_of, table_of, Problem, Concordance, Signals, InfluenceTable, Plain, Strong, column_from, opposite_kind}
use Rattle.std.proofs.lemmas.List.{take_all}

-- ---- the column of a reaction, species by species

or_true : (b : Bool) → (b || true) ≡ true
or_true true = refl
or_true false = refl

pub column_closed : (raised lowered : Bool) (ss : List Sign) → column_from raised lowered (Zero ∷ ss) [] ≡ column_from raised lowered ss []
column_closed raised lowered ss = ap (λ (l : List Sign). cond (all_zero ss) (kind_of_sum (raised || some_sign is_plus l) (lowered || some_sign is_minus l)) Free) (sym (products_none ss))

pub column_more : (raised lowered : Bool) (s t : Sign) (ss p : List Sign) → product s t ≡ Zero → column_from raised lowered (s ∷ ss) (t ∷ p) ≡ column_from raised lowered ss p
column_more raised lowered s t ss p e = ap (λ (u : Sign). cond (all_zero (drop (length p) ss)) (kind_of_sum (raised || cond (is_plus u) true (some_sign is_plus (products ss p))) (lowered || cond (is_minus u) true (some_sign is_minus (products ss p)))) Free) e

column_raised : (raised lowered : Bool) (s t : Sign) (ss p : List Sign) → product s t ≡ Plus → column_from raised lowered (s ∷ ss) (t ∷ p) ≡ column_from true lowered ss p
column_raised raised lowered s t ss p e =
    ap (λ (u : Sign). cond (all_zero (drop (length p) ss)) (kind_of_sum (raised || cond (is_plus u) true (some_sign is_plus (products ss p))) (lowered || cond (is_minus u) true (some_sign is_minus (products ss p)))) Free) e
    ∙ ap (λ (b : Bool). cond (all_zero (drop (length p) ss)) (kind_of_sum b (lowered || some_sign is_minus (products ss p))) Free) (or_true raised)

column_lowered : (raised lowered : Bool) (s t : Sign) (ss p : List Sign) → product s t ≡ Minus → column_from raised lowered (s ∷ ss) (t ∷ p) ≡ column_from raised true ss p
column_lowered raised lowered s t ss p e =
    ap (λ (u : Sign). cond (all_zero (drop (length p) ss)) (kind_of_sum (raised || cond (is_plus u) true (some_sign is_plus (products ss p))) (lowered || cond (is_minus u) true (some_sign is_minus (products ss p)))) Free) e
    ∙ ap (λ (b : Bool). cond (all_zero (drop (length p) ss)) (kind_of_sum (raised || some_sign is_plus (products ss p)) b) Free) (or_true lowered)

after_first : {A : Type 0} (x : A) (xs : List A) → take (length (x ∷ xs) - 1) xs ≡ xs
after_first x xs = let e : length (x ∷ xs) - 1 ≡ length xs = omega arith in rw e (take_all (length xs) xs (omega arith))

pub first_open : (raised lowered : Bool) (xs : List ℤ) (p : List Sign) (κ : Kind) → 1 ≤ length xs → length p < 1 → get_or xs 0 (pos 0) ≡ pos 0 → κ ≡ column_from raised lowered (map sign (take (length xs - 1) (drop 1 xs))) p → κ ≡ column_from raised lowered (map sign xs) p
first_open raised lowered [] p κ l g z h = absurd (omega (arith, l))
first_open raised lowered (x ∷ xs) (t ∷ p) κ l g z h = absurd (omega (arith, g))
first_open raised lowered (x ∷ xs) [] κ l g z h =
    h ∙ ap (λ (ys : List ℤ). column_from raised lowered (map sign ys) []) (after_first x xs)
    ∙ sym (column_closed raised lowered (map sign xs))
    ∙ ap (λ (y : ℤ). column_from raised lowered (sign y ∷ map sign xs) []) (sym z)

-- the same for numbers and their signs, at the first species
pub first_none : (raised lowered : Bool) (xs : List ℤ) (p : List Sign) (r : Sign) (κ : Kind) → 1 ≤ length xs → 1 ≤ length p → r ≡ product (sign (get_or xs 0 (pos 0))) (get_or p 0 Zero) → r ≡ Zero → κ ≡ column_from raised lowered (map sign (take (length xs - 1) (drop 1 xs))) (take (length p - 1) (drop 1 p)) → κ ≡ column_from raised lowered (map sign xs) p
first_none raised lowered [] p r κ l g e z h = absurd (omega (arith, l))
first_none raised lowered (x ∷ xs) [] r κ l g e z h = absurd (omega (arith, g))
first_none raised lowered (x ∷ xs) (t ∷ p) r κ l g e z h = h ∙ ap₂ (λ (ys : List ℤ) (q : List Sign). column_from raised lowered (map sign ys) q) (after_first x xs) (after_first t p) ∙ sym (column_more raised lowered (sign x) t (map sign xs) p (sym e ∙ z))

pub first_raises : (raised lowered : Bool) (xs : List ℤ) (p : List Sign) (r : Sign) (κ : Kind) → 1 ≤ length xs → 1 ≤ length p → r ≡ product (sign (get_or xs 0 (pos 0))) (get_or p 0 Zero) → r ≡ Plus → κ ≡ column_from true lowered (map sign (take (length xs - 1) (drop 1 xs))) (take (length p - 1) (drop 1 p)) → κ ≡ column_from raised lowered (map sign xs) p
first_raises raised lowered [] p r κ l g e z h = absurd (omega (arith, l))
first_raises raised lowered (x ∷ xs) [] r κ l g e z h = absurd (omega (arith, g))
first_raises raised lowered (x ∷ xs) (t ∷ p) r κ l g e z h = h ∙ ap₂ (λ (ys : List ℤ) (q : List Sign). column_from true lowered (map sign ys) q) (after_first x xs) (after_first t p) ∙ sym (column_raised raised lowered (sign x) t (map sign xs) p (sym e ∙ z))

pub first_lowers : (raised lowered : Bool) (xs : List ℤ) (p : List Sign) (r : Sign) (κ : Kind) → 1 ≤ length xs → 1 ≤ length p → r ≡ product (sign (get_or xs 0 (pos 0))) (get_or p 0 Zero) → r ≡ Minus → κ ≡ column_from raised true (map sign (take (length xs - 1) (drop 1 xs))) (take (length p - 1) (drop 1 p)) → κ ≡ column_from raised lowered (map sign xs) p
first_lowers raised lowered [] p r κ l g e z h = absurd (omega (arith, l))
first_lowers raised lowered (x ∷ xs) [] r κ l g e z h = absurd (omega (arith, g))
first_lowers raised lowered (x ∷ xs) (t ∷ p) r κ l g e z h = h ∙ ap₂ (λ (ys : List ℤ) (q : List Sign). column_from raised true (map sign ys) q) (after_first x xs) (after_first t p) ∙ sym (column_lowered raised lowered (sign x) t (map sign xs) p (sym e ∙ z))

-- ---- the strong table has the signs opposite to the reaction vectors

product-opposite : (s t : Sign) → product (opposite s) t ≡ opposite (product s t)
product-opposite Zero t = refl
product-opposite Plus t = refl
product-opposite Minus Zero = refl
product-opposite Minus Plus = refl
product-opposite Minus Minus = refl

some_negative : (test test' : Sign → Bool) → ((s : Sign) → test (opposite s) ≡ test' s) → (ss p : List Sign) → some_sign test (products (map opposite ss) p) ≡ some_sign test' (products ss p)
some_negative test test' h [] p = refl
some_negative test test' h (s ∷ ss) [] = refl
some_negative test test' h (s ∷ ss) (t ∷ p) = ap₂ (λ (b c : Bool). cond b true c) (ap test (product-opposite s t) ∙ h (product s t)) (some_negative test test' h ss p)

zeros_negative : (n : ℕ) (ss : List Sign) → all_zero (drop n (map opposite ss)) ≡ all_zero (drop n ss)
zeros_negative (suc n) [] = refl
zeros_negative (suc n) (s ∷ ss) = zeros_negative n ss
zeros_negative zero [] = refl
zeros_negative zero (Zero ∷ ss) = zeros_negative zero ss
zeros_negative zero (Plus ∷ ss) = refl
zeros_negative zero (Minus ∷ ss) = refl

column_negative : (ss p : List Sign) → column_kind (map opposite ss) p ≡ opposite_kind (column_kind ss p)
column_negative ss p =
    let k : kind_of_sum (some_sign is_plus (products (map opposite ss) p)) (some_sign is_minus (products (map opposite ss) p)) ≡ opposite_kind (kind_of_sum (some_sign is_plus (products ss p)) (some_sign is_minus (products ss p))) =
    ap₂ kind_of_sum (some_negative is_plus is_minus plus-opposite ss p) (some_negative is_minus is_plus minus-opposite ss p) ∙ sum-opposite (some_sign is_plus (products ss p)) (some_sign is_minus (products ss p)) in
    ap₂ (λ (b : Bool) (κ : Kind). cond b κ Free) (zeros_negative (length p) ss) k ∙ cond-opposite (all_zero (drop (length p) ss)) (kind_of_sum (some_sign is_plus (products ss p)) (some_sign is_minus (products ss p)))

sign_of_negative : (x y : ℤ) → y ≡ neg_ℤ x → sign y ≡ opposite (sign x)
sign_of_negative (pos zero) (pos zero) e = refl
sign_of_negative (pos zero) (pos (suc m)) e = absurd (omega (arith, ints, e))
sign_of_negative (pos zero) (negsuc m) e = absurd (omega (arith, ints, e))
sign_of_negative (pos (suc n)) (pos m) e = absurd (omega (arith, ints, e))
sign_of_negative (pos (suc n)) (negsuc m) e = refl
sign_of_negative (negsuc n) (pos zero) e = absurd (omega (arith, ints, e))
sign_of_negative (negsuc n) (pos (suc m)) e = refl
sign_of_negative (negsuc n) (negsuc m) e = absurd (omega (arith, ints, e))

signs_negative : (xs ys : List ℤ) → map sign (minus xs ys) ≡ map opposite (map sign (minus ys xs))
signs_negative [] [] = refl
signs_negative [] (y ∷ ys) = refl
signs_negative (x ∷ xs) [] = refl
signs_negative (x ∷ xs) (y ∷ ys) = ap₂ (λ (s : Sign) (l : List Sign). s ∷ l) (sign_of_negative (y -ℤ x) (x -ℤ y) (omega (arith, ints))) (signs_negative xs ys)

-- the kind of a reaction's column in the strong table
pub strong_column : (net : Net) (r : ℕ) (v : List ℤ) (p : List Sign) (κ κ' : Kind) → r < length net.reactions → v ≡ reaction_vector net (get_or net.reactions r (0, 0)) → κ ≡ column_from false false (map sign v) p → κ' ≡ opposite_kind κ → κ' ≡ column_kind (get_or (strong_table net) r []) p
strong_column net r v p κ κ' lt e h g =
    let s = sides_of net (get_or net.reactions r (0, 0)) in
    g ∙ ap opposite_kind h ∙ sym (column_negative (map sign v) p)
    ∙ ap (λ (u : List ℤ). column_kind (map opposite (map sign u)) p) e
    ∙ ap (λ (l : List Sign). column_kind l p) (sym (signs_negative s.0 s.1) ∙ sym (get_or-map (λ (r : ℕ × ℕ). map sign (minus (sides_of net r).0 (sides_of net r).1)) net.reactions r (0, 0) [] lt))

-- ---- the kinds of all coordinates

pub table_long : (net : Net) (table : InfluenceTable) → length (table_of net table) ≡ length net.reactions
table_long net Plain = length-map net.reactions (λ r. map sign (sides_of net r).0)
table_long net Strong = length-map net.reactions (λ r. map sign (minus (sides_of net r).0 (sides_of net r).1))

-- part B is over system 2 in each problem
pub part_b_is : (net : Net) (problem : Problem) → (problem_of net problem).matrix_b ≡ reaction_system net
part_b_is net (Concordance table) = refl
part_b_is net (Signals shape) = refl
