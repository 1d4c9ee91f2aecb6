-- The complexes of the reactions of statements.
use Rattle.crn_text.proofs.Prelude.{◌≡◌, ℕ, zero, suc, ◌-◌, ◌<◌, ◌≤◌, Bool, true, false, List, [], ◌∷◌, ◌++◌, length, map, get_or, refl, sym, ap, ap₂, subst, ◌∙◌, append_assoc, inl, inr, eqb, leb, arith, ℤ, not, filter, AllByRecursion, flat_map, int_eq, pointwise, Decides, Decides-eqb, cases_Bool, cases_lt, eqb-true, eqb-false, leb-true, leb-false, le-leb, lt-leb, not-false, append-nil, IsIn, firsts, IsNumberedInOrder, appears_in_order, in_left, in_right, in_map, all_in, at_in, same_place, map_twice, firsts_known, firsts_firsts, firsts_map, row_decides, sides_decide, same_test, ends_below, append_same, flat_map_push, Net, IsPartialNetwork, IsVector, JoinsTwo, ends, sides_of, sides_eq, with_zeros, both_with_zeros, both_of}

-- ---- repeats that are dropped drop no first occurrence of what they have

pub known_all : {B : Type 0} (E : B → B → Bool) (d : (a b : B) → Decides (E a b) (a ≡ b)) (xs zs : List B) → ((z : B) → IsIn z zs → IsIn z xs) → firsts E (xs ++ zs) ≡ firsts E xs
known_all E d xs [] h = ap (firsts E) (append-nil xs)
known_all E d xs (z ∷ zs) h =
    ap (firsts E) (sym (append_assoc xs (z ∷ []) zs)) ∙ known_all E d (xs ++ z ∷ []) zs (λ y i. in_left y xs (z ∷ []) (h y (inr i))) ∙ firsts_known E d xs z (h z (inl refl))

known_drop : {B : Type 0} (E : B → B → Bool) (d : (a b : B) → Decides (E a b) (a ≡ b)) (xs zs ws : List B) → ((z : B) → IsIn z zs → IsIn z xs) → firsts E ((xs ++ zs) ++ ws) ≡ firsts E (xs ++ ws)
known_drop {B} E d xs zs ws h = sym (firsts_firsts E d (xs ++ zs) ws) ∙ ap (λ (t : List B). firsts E (t ++ ws)) (known_all E d xs zs h) ∙ firsts_firsts E d xs ws

kept : {A B : Type 0} (E : B → B → Bool) (d : (a b : B) → Decides (E a b) (a ≡ b)) (b : A → List B) (q : A → Bool) (ys : List A) (prefix : List B) → ((y : A) → q y ≡ false → (z : B) → IsIn z (b y) → IsIn z prefix) → firsts E (prefix ++ flat_map b (filter q ys)) ≡ firsts E (prefix ++ flat_map b ys)
kept E d b q [] prefix h = refl
kept E d b q (y ∷ ys) prefix h =
    elim (cases_Bool (q y)) [
      | inl t ↦ rw t (ap (firsts E) (sym (append_assoc prefix (b y) (flat_map b (filter q ys)))) ∙ kept E d b q ys (prefix ++ b y) (λ x n z i. in_left z prefix (b y) (h x n z i)) ∙ ap (firsts E) (append_assoc prefix (b y) (flat_map b ys)))
      | inr n ↦ rw n (kept E d b q ys prefix h ∙ sym (known_drop E d prefix (b y) (flat_map b ys) (h y n)) ∙ ap (firsts E) (append_assoc prefix (b y) (flat_map b ys)))
    ]

pub all_kept : {A B : Type 0} (same : A → A → Bool) (e : (a b : A) → Decides (same a b) (a ≡ b)) (E : B → B → Bool) (d : (a b : B) → Decides (E a b) (a ≡ b)) (b : A → List B) (xs : List A) (prefix : List B) → firsts E (prefix ++ flat_map b (firsts same xs)) ≡ firsts E (prefix ++ flat_map b xs)
all_kept same e E d b [] prefix = refl
all_kept {A} {B} same e E d b (x ∷ xs) prefix =
    ap (firsts E) (sym (append_assoc prefix (b x) (flat_map b (filter (λ y. not (same x y)) (firsts same xs)))))
    ∙ kept E d b (λ y. not (same x y)) (firsts same xs) (prefix ++ b x) (λ y n z i. in_right z prefix (b x) (subst (λ (u : A). IsIn z (b u)) (sym ((e x y).0 (not-false (same x y) n))) i))
    ∙ all_kept same e E d b xs (prefix ++ b x)
    ∙ ap (firsts E) (append_assoc prefix (b x) (flat_map b xs))

-- ---- complexes are numbered by first appearance in the reactions

-- so many numbers from a on
abbrev pub upto : ℕ → ℕ → List ℕ
upto a zero = []
upto a (suc n) = a ∷ upto (suc a) n

above_both : (next x : ℕ) (ys : List ℕ) → x < next → filter (λ y. leb next y) (filter (λ y. not (eqb x y)) ys) ≡ filter (λ y. leb next y) ys
above_both next x [] lt = refl
above_both next x (y ∷ ys) lt =
    elim (cases_Bool (eqb x y)) [
      | inl e ↦ let less : leb next y ≡ false = lt-leb next y (let same : x ≡ y = eqb-true x y e in omega (arith, same)) in rw (e, less) (above_both next x ys lt)
      | inr n ↦ elim (cases_Bool (leb next y)) [
        | inl t ↦ rw (n, t) (ap (λ (t : List ℕ). y ∷ t) (above_both next x ys lt))
        | inr f ↦ rw (n, f) (above_both next x ys lt)
      ]
    ]

above_next : (next : ℕ) (ys : List ℕ) → filter (λ y. leb next y) (filter (λ y. not (eqb next y)) ys) ≡ filter (λ y. leb (suc next) y) ys
above_next next [] = refl
above_next next (y ∷ ys) =
    elim (cases_Bool (eqb next y)) [
      | inl e ↦ let less : leb (suc next) y ≡ false = lt-leb (suc next) y (let same : next ≡ y = eqb-true next y e in omega (arith, same)) in rw (e, less) (above_next next ys)
      | inr n ↦ elim (cases_Bool (leb (suc next) y)) [
        | inl t ↦ let le : leb next y ≡ true = le-leb next y (let l = leb-true (suc next) y t in omega (arith, l)) in rw (n, le, t) (ap (λ (t : List ℕ). y ∷ t) (above_next next ys))
        | inr f ↦
            let lt : leb next y ≡ false = lt-leb next y (let l = leb-false (suc next) y f in let ne : next ≡ y → ⊥ = eqb-false next y n in omega (arith, l, ne)) in
            rw (n, lt, f) (above_next next ys)
      ]
    ]

numbers_from : (next count : ℕ) (es : List ℕ) → IsNumberedInOrder next es → ((c : ℕ) → c < count → next ≤ c → IsIn c es) → ((y : ℕ) → IsIn y es → y < count) → filter (λ y. leb next y) (firsts eqb es) ≡ upto next (count - next)
numbers_from next count [] h reached below =
    elim (cases_lt next count) [
      | inl lt ↦ absurd (reached next lt (omega arith))
      | inr le ↦ let none : count - next ≡ 0 = omega arith in rw none refl
    ]
numbers_from next count (y ∷ es) (inl h) reached below =
    let small : leb next y ≡ false = lt-leb next y h.0 in
    rw small (above_both next y (firsts eqb es) h.0 ∙ numbers_from next count es h.1 (λ c lt le. elim (reached c lt le) [ inl e ↦ absurd (let k = h.0 in omega (arith, e, k, le)) | inr i ↦ i ]) (λ x i. below x (inr i)))
numbers_from next count (y ∷ es) (inr h) reached below =
    let lt : y < count = below y (inl refl) in
    let one : count - next ≡ suc (count - suc next) = let e = h.0 in omega (arith, e, lt) in
    let here : leb next y ≡ true = le-leb next y (let e = h.0 in omega (arith, e)) in
    let rest = numbers_from (suc next) count es h.1 (λ c l le. elim (reached c l (omega (arith, le))) [ inl e ↦ absurd (let k = h.0 in omega (arith, e, k, le)) | inr i ↦ i ]) (λ x i. below x (inr i)) in
    let drops : filter (λ z. leb next z) (filter (λ z. not (eqb y z)) (firsts eqb es)) ≡ filter (λ z. leb (suc next) z) (firsts eqb es) = subst (λ (u : ℕ). filter (λ z. leb next z) (filter (λ z. not (eqb u z)) (firsts eqb es)) ≡ filter (λ z. leb (suc next) z) (firsts eqb es)) (sym h.0) (above_next next (firsts eqb es)) in
    rw (here, one) (ap₂ (λ (u : ℕ) (t : List ℕ). u ∷ t) h.0 (drops ∙ rest))

all_above : (ys : List ℕ) → filter (λ y. leb 0 y) ys ≡ ys
all_above [] = refl
all_above (y ∷ ys) = let le : leb 0 y ≡ true = le-leb 0 y (omega arith) in rw le (ap (λ (t : List ℕ). y ∷ t) (all_above ys))

shifted : {B : Type 0} (f : ℕ → B) (a n : ℕ) → map f (upto (suc a) n) ≡ map (λ c. f (suc c)) (upto a n)
shifted f a zero = refl
shifted {B} f a (suc n) = ap (λ (t : List B). f (suc a) ∷ t) (shifted f (suc a) n)

pub places_all : {B : Type 0} (xs : List B) (d : B) → map (λ c. get_or xs c d) (upto 0 (length xs)) ≡ xs
places_all [] d = refl
places_all {B} (x ∷ xs) d = ap (λ (t : List B). x ∷ t) (shifted (λ c. get_or (x ∷ xs) c d) 0 (length xs) ∙ places_all xs d)

ends_sides : (net : Net) (rs : List (ℕ × ℕ)) → flat_map both_of (map (sides_of net) rs) ≡ map (λ c. get_or net.complexes c []) (ends rs)
ends_sides net [] = refl
ends_sides net (r ∷ rs) = ap (λ (t : List (List ℤ)). get_or net.complexes r.0 [] ∷ get_or net.complexes r.1 [] ∷ t) (ends_sides net rs)

-- numbers that appear in order, below a count that they reach, are those from 0 on
pub numbers_are : (count : ℕ) (es : List ℕ) → IsNumberedInOrder 0 es → ((c : ℕ) → c < count → IsIn c es) → ((y : ℕ) → IsIn y es → y < count) → firsts eqb es ≡ upto 0 count
numbers_are count es h reached below = sym (all_above (firsts eqb es)) ∙ numbers_from 0 count es h (λ c lt le. reached c lt) below ∙ ap (upto 0) (let e : count - 0 ≡ count = omega arith in e)

pub ends_are : (net : Net) → IsPartialNetwork net → firsts eqb (ends net.reactions) ≡ upto 0 (length net.complexes)
ends_are net h = numbers_are (length net.complexes) (ends net.reactions) (appears_in_order (ends net.reactions) h.numbered) h.each_in_a_reaction (ends_below (length net.complexes) net.reactions h.apart)

pub complexes_are : (net : Net) → IsPartialNetwork net → firsts (pointwise int_eq) (flat_map both_of (map (sides_of net) net.reactions)) ≡ net.complexes
complexes_are net h =
    let at : ℕ → List ℤ = λ c. get_or net.complexes c [] in
    let below = ends_below (length net.complexes) net.reactions h.apart in
    let test : (a b : ℕ) → IsIn a (ends net.reactions) → IsIn b (ends net.reactions) → pointwise int_eq (at a) (at b) ≡ eqb a b = λ a b i j.
    same_test (pointwise int_eq (at a) (at b)) (eqb a b) (at a ≡ at b) (a ≡ b) (row_decides (at b) (at a)) (Decides-eqb a b) (λ e. same_place net.complexes a b [] h.complexes (below a i) (below b j) e) (ap at) in
    ap (firsts (pointwise int_eq)) (ends_sides net net.reactions) ∙ firsts_map eqb (pointwise int_eq) at (ends net.reactions) test ∙ ap (map at) (ends_are net h) ∙ places_all net.complexes []

-- ---- with one statement more

pub flat_map_map : (w : List ℤ → List ℤ) (rs : List (List ℤ × List ℤ)) → flat_map both_of (map (λ r. (w r.0, w r.1)) rs) ≡ map w (flat_map both_of rs)
flat_map_map w [] = refl
flat_map_map w (r ∷ rs) = ap (λ (t : List (List ℤ)). w r.0 ∷ w r.1 ∷ t) (flat_map_map w rs)

long_of : (net : Net) (rs : List (ℕ × ℕ)) → IsPartialNetwork net → AllByRecursion (JoinsTwo (length net.complexes)) rs → (v : List ℤ) → IsIn v (flat_map both_of (map (sides_of net) rs)) → length v ≡ length net.names
long_of net rs h apart v i =
    let j = subst (λ (t : List (List ℤ)). IsIn v t) (ends_sides net rs) i in
    let p = in_map (λ c. get_or net.complexes c []) (ends rs) v j in
    let lt = ends_below (length net.complexes) rs apart p.0 p.1 in
    ap length p.2 ∙ (all_in (IsVector (length net.names)) net.complexes (get_or net.complexes p.0 []) h.vectors (at_in net.complexes p.0 [] lt)).0

pub complexes_more : (net : Net) (m : ℕ) (p : List ℤ × List ℤ) → IsPartialNetwork net → firsts (pointwise int_eq) (map (with_zeros m) net.complexes ++ p.0 ∷ p.1 ∷ []) ≡ firsts (pointwise int_eq) (flat_map both_of (firsts sides_eq (map (λ r. both_with_zeros m (sides_of net r)) net.reactions ++ p ∷ [])))
complexes_more net m p h =
    let E : List ℤ → List ℤ → Bool = pointwise int_eq in
    let d : (a b : List ℤ) → Decides (E a b) (a ≡ b) = λ a b. row_decides b a in
    let olds : List (List ℤ) = flat_map both_of (map (sides_of net) net.reactions) in
    let wide : List (List ℤ × List ℤ) = map (λ r. both_with_zeros m (sides_of net r)) net.reactions in
    let test : (a b : List ℤ) → IsIn a olds → IsIn b olds → E (with_zeros m a) (with_zeros m b) ≡ E a b = λ a b i j.
    same_test (E (with_zeros m a) (with_zeros m b)) (E a b) (with_zeros m a ≡ with_zeros m b) (a ≡ b) (d (with_zeros m a) (with_zeros m b)) (d a b)
    (λ e. append_same a b _ _ (long_of net net.reactions h h.apart a i ∙ sym (long_of net net.reactions h h.apart b j)) e) (ap (with_zeros m)) in
    let these : flat_map both_of wide ≡ map (with_zeros m) olds = ap (flat_map both_of) (sym (map_twice (sides_of net) (both_with_zeros m) net.reactions)) ∙ flat_map_map (with_zeros m) (map (sides_of net) net.reactions) in
    let known : firsts E (flat_map both_of wide) ≡ map (with_zeros m) net.complexes = ap (firsts E) these ∙ firsts_map E E (with_zeros m) olds test ∙ ap (map (with_zeros m)) (complexes_are net h) in
    ap (λ (t : List (List ℤ)). firsts E (t ++ p.0 ∷ p.1 ∷ [])) (sym known) ∙ firsts_firsts E d (flat_map both_of wide) (p.0 ∷ p.1 ∷ []) ∙ ap (firsts E) (sym (flat_map_push both_of wide p)) ∙ sym (all_kept sides_eq sides_decide E d both_of (wide ++ p ∷ []) [])
