-- The members of a list, each once, in order of first appearance.
use Rattle.crn_vec.proofs.Prelude.{◌≡◌, ◌⊎◌, ◌≤◌, Bool, true, false, ◌&&◌, List, [], ◌∷◌, ◌++◌, length, map, refl, sym, ap, subst, ◌∙◌, inl, inr, arith, filter, Decides, cases_Bool, append-nil, length-append, filter-append, IsIn, AreDistinct, firsts}
use Rattle.std.proofs.Common.{not}
use Rattle.crn_vec.proofs.Filters.{filter_from, filter_has, filter_distinct}

-- ---- filter

filter_all : {A : Type 0} (p : A → Bool) (xs : List A) → ((y : A) → IsIn y xs → p y ≡ true) → filter p xs ≡ xs
filter_all p [] h = refl
filter_all {A} p (x ∷ xs) h = let here : p x ≡ true = h x (inl refl) in rw here (ap (λ (t : List A). x ∷ t) (filter_all p xs (λ y i. h y (inr i))))

filter_same : {A : Type 0} (p q : A → Bool) (xs : List A) → ((y : A) → p y ≡ q y) → filter p xs ≡ filter q xs
filter_same p q [] h = refl
filter_same {A} p q (x ∷ xs) h =
    let same : p x ≡ q x = h x in
    let rest : filter p xs ≡ filter q xs = filter_same p q xs h in
    elim (cases_Bool (q x)) [
      | inl hit ↦ let t : p x ≡ true = same ∙ hit in rw (hit, t) (ap (λ (z : List A). x ∷ z) rest)
      | inr miss ↦ let t : p x ≡ false = same ∙ miss in rw (miss, t) rest
    ]

filter_both : {A : Type 0} (p q r : A → Bool) (xs : List A) → ((y : A) → r y ≡ (p y && q y)) → filter p (filter q xs) ≡ filter r xs
filter_both p q r [] h = refl
filter_both {A} p q r (x ∷ xs) h =
    let at : r x ≡ (p x && q x) = h x in
    let rest : filter p (filter q xs) ≡ filter r xs = filter_both p q r xs h in
    elim (cases_Bool (q x)) [
      | inl hit ↦ elim (cases_Bool (p x)) [
        | inl yes' ↦ let t : r x ≡ true = at ∙ rw (hit, yes') refl in rw (hit, t) (rw yes' (ap (λ (z : List A). x ∷ z) rest))
        | inr no' ↦ let t : r x ≡ false = at ∙ rw (hit, no') refl in rw (hit, t) (rw no' rest)
      ]
      | inr miss ↦ let t : r x ≡ false = elim (cases_Bool (p x)) [ inl yes' ↦ at ∙ rw (miss, yes') refl | inr no' ↦ at ∙ rw (miss, no') refl ] in rw (miss, t) rest
    ]

filter_map : {A B : Type 0} (p : B → Bool) (q : A → Bool) (f : A → B) (xs : List A) → ((y : A) → IsIn y xs → p (f y) ≡ q y) → filter p (map f xs) ≡ map f (filter q xs)
filter_map p q f [] h = refl
filter_map {A} {B} p q f (x ∷ xs) h =
    let here : p (f x) ≡ q x = h x (inl refl) in
    let rest : filter p (map f xs) ≡ map f (filter q xs) = filter_map p q f xs (λ y i. h y (inr i)) in
    elim (cases_Bool (q x)) [
      | inl hit ↦ let t : p (f x) ≡ true = here ∙ hit in rw (hit, t) (ap (λ (z : List B). f x ∷ z) rest)
      | inr miss ↦ let t : p (f x) ≡ false = here ∙ miss in rw (miss, t) rest
    ]

-- ---- members

pub firsts_from : {A : Type 0} (same : A → A → Bool) (xs : List A) (y : A) → IsIn y (firsts same xs) → IsIn y xs
firsts_from same [] y h = absurd h
firsts_from same (x ∷ xs) y (inl e) = inl e
firsts_from same (x ∷ xs) y (inr h) = inr (firsts_from same xs y (filter_from (λ z. not (same x z)) (firsts same xs) y h).0)

pub firsts_has : {A : Type 0} (same : A → A → Bool) (d : (a b : A) → Decides (same a b) (a ≡ b)) (xs : List A) (y : A) → IsIn y xs → IsIn y (firsts same xs)
firsts_has same d [] y h = absurd h
firsts_has same d (x ∷ xs) y (inl e) = inl e
firsts_has same d (x ∷ xs) y (inr h) =
    elim (cases_Bool (same x y)) [
      | inl hit ↦ inl (sym ((d x y).0 hit))
      | inr miss ↦ let t : not (same x y) ≡ true = rw miss refl in inr (filter_has (λ z. not (same x z)) (firsts same xs) y (firsts_has same d xs y h) t)
    ]

pub firsts_distinct : {A : Type 0} (same : A → A → Bool) (d : (a b : A) → Decides (same a b) (a ≡ b)) (xs : List A) → AreDistinct (firsts same xs)
firsts_distinct same d [] = tt
firsts_distinct same d (x ∷ xs) = (
  λ i. let r = (filter_from (λ z. not (same x z)) (firsts same xs) x i).1 in let hit : same x x ≡ true = (d x x).1 refl in let t : not (same x x) ≡ false = rw hit refl in absurd (let bad : true ≡ false = sym r ∙ t in cc),
  filter_distinct (λ z. not (same x z)) (firsts same xs) (firsts_distinct same d xs),
)

-- nothing is dropped of distinct members
pub firsts_all : {A : Type 0} (same : A → A → Bool) (d : (a b : A) → Decides (same a b) (a ≡ b)) (xs : List A) → AreDistinct xs → firsts same xs ≡ xs
firsts_all same d [] h = refl
firsts_all {A} same d (x ∷ xs) h =
    let keeps : (y : A) → IsIn y xs → not (same x y) ≡ true = λ y i. elim (cases_Bool (same x y)) [
      | inl hit ↦ absurd (h.0 (subst (λ (z : A). IsIn z xs) (sym ((d x y).0 hit)) i))
      | inr miss ↦ rw miss refl
    ] in
    ap (λ (t : List A). x ∷ t) (ap (filter (λ z. not (same x z))) (firsts_all same d xs h.1) ∙ filter_all (λ z. not (same x z)) xs keeps)

-- ---- lists joined

-- y is not among these
abbrev is_new : {A : Type 0} → (A → A → Bool) → List A → A → Bool
is_new same [] y = true
is_new same (x ∷ xs) y = not (same x y) && is_new same xs y

new_is : {A : Type 0} (same : A → A → Bool) (d : (a b : A) → Decides (same a b) (a ≡ b)) (xs : List A) (y : A) → ((is_new same xs y ≡ false) × IsIn y xs) ⊎ ((is_new same xs y ≡ true) × (IsIn y xs → ⊥))
new_is same d [] y = inr (refl, λ h. h)
new_is same d (x ∷ xs) y =
    elim (cases_Bool (same x y)) [
      | inl hit ↦ inl (rw hit refl, inl (sym ((d x y).0 hit)))
      | inr miss ↦ elim (new_is same d xs y) [
        | inl a ↦ inl (rw (miss, a.0) refl, inr a.1)
        | inr b ↦ inr (rw (miss, b.0) refl, λ h. elim h [ inl e ↦ absurd (let t = (d x y).1 (sym e) in cc) | inr i ↦ b.1 i ])
      ]
    ]

new_same : {A : Type 0} (same : A → A → Bool) (d : (a b : A) → Decides (same a b) (a ≡ b)) (xs ys : List A) → ((y : A) → IsIn y xs → IsIn y ys) → ((y : A) → IsIn y ys → IsIn y xs) → (y : A) → is_new same xs y ≡ is_new same ys y
new_same same d xs ys to from y =
    elim (new_is same d xs y) [
      | inl a ↦ elim (new_is same d ys y) [ inl b ↦ a.0 ∙ sym b.0 | inr b ↦ absurd (b.1 (to y a.1)) ]
      | inr a ↦ elim (new_is same d ys y) [ inl b ↦ absurd (a.1 (from y b.1)) | inr b ↦ a.0 ∙ sym b.0 ]
    ]

firsts_append : {A : Type 0} (same : A → A → Bool) (xs ys : List A) → firsts same (xs ++ ys) ≡ firsts same xs ++ filter (is_new same xs) (firsts same ys)
firsts_append same [] ys = sym (filter_all (is_new same []) (firsts same ys) (λ y i. refl))
firsts_append {A} same (x ∷ xs) ys =
    let p : A → Bool = λ z. not (same x z) in
    let both : filter p (filter (is_new same xs) (firsts same ys)) ≡ filter (is_new same (x ∷ xs)) (firsts same ys) = filter_both p (is_new same xs) (is_new same (x ∷ xs)) (firsts same ys) (λ y. refl) in
    ap (λ (t : List A). x ∷ t) (ap (filter p) (firsts_append same xs ys) ∙ filter-append p (firsts same xs) (filter (is_new same xs) (firsts same ys)) ∙ ap (λ (t : List A). filter p (firsts same xs) ++ t) both)

-- one more member at the end, known or new
pub firsts_known : {A : Type 0} (same : A → A → Bool) (d : (a b : A) → Decides (same a b) (a ≡ b)) (xs : List A) (x : A) → IsIn x xs → firsts same (xs ++ x ∷ []) ≡ firsts same xs
firsts_known {A} same d xs x h =
    elim (new_is same d xs x) [
      | inl a ↦ let none : filter (is_new same xs) (x ∷ []) ≡ [] = rw a.0 refl in firsts_append same xs (x ∷ []) ∙ ap (λ (t : List A). firsts same xs ++ t) none ∙ append-nil (firsts same xs)
      | inr b ↦ absurd (b.1 h)
    ]

pub firsts_new : {A : Type 0} (same : A → A → Bool) (d : (a b : A) → Decides (same a b) (a ≡ b)) (xs : List A) (x : A) → (IsIn x xs → ⊥) → firsts same (xs ++ x ∷ []) ≡ firsts same xs ++ x ∷ []
firsts_new {A} same d xs x h =
    elim (new_is same d xs x) [
      | inl a ↦ absurd (h a.1)
      | inr b ↦ let one : filter (is_new same xs) (x ∷ []) ≡ x ∷ [] = rw b.0 refl in firsts_append same xs (x ∷ []) ∙ ap (λ (t : List A). firsts same xs ++ t) one
    ]

-- repeats may be dropped from a prefix
pub firsts_firsts : {A : Type 0} (same : A → A → Bool) (d : (a b : A) → Decides (same a b) (a ≡ b)) (xs ys : List A) → firsts same (firsts same xs ++ ys) ≡ firsts same (xs ++ ys)
firsts_firsts {A} same d xs ys =
    let new : (y : A) → is_new same (firsts same xs) y ≡ is_new same xs y = new_same same d (firsts same xs) xs (firsts_from same xs) (firsts_has same d xs) in
    let prefix : firsts same (firsts same xs) ≡ firsts same xs = firsts_all same d (firsts same xs) (firsts_distinct same d xs) in
    firsts_append same (firsts same xs) ys
    ∙ ap (λ (t : List A). t ++ filter (is_new same (firsts same xs)) (firsts same ys)) prefix
    ∙ ap (λ (t : List A). firsts same xs ++ t) (filter_same (is_new same (firsts same xs)) (is_new same xs) (firsts same ys) new)
    ∙ sym (firsts_append same xs ys)

-- the first appearances of a prefix are a prefix
pub firsts_prefix : {A : Type 0} (same : A → A → Bool) (xs ys : List A) → (more : List A) × (firsts same (xs ++ ys) ≡ firsts same xs ++ more)
firsts_prefix same xs ys = (filter (is_new same xs) (firsts same ys), firsts_append same xs ys)

pub firsts_length : {A : Type 0} (same : A → A → Bool) (xs ys : List A) → length (firsts same xs) ≤ length (firsts same (xs ++ ys))
firsts_length same xs ys = let e = ap length (firsts_append same xs ys) in let l = length-append (firsts same xs) (filter (is_new same xs) (firsts same ys)) in omega (arith, e, l)

-- a map that keeps members apart may be applied before or after
pub firsts_map : {A B : Type 0} (same : A → A → Bool) (other : B → B → Bool) (f : A → B) (xs : List A) → ((x y : A) → IsIn x xs → IsIn y xs → other (f x) (f y) ≡ same x y) → firsts other (map f xs) ≡ map f (firsts same xs)
firsts_map same other f [] h = refl
firsts_map {A} {B} same other f (x ∷ xs) h =
    ap (λ (t : List B). f x ∷ t) (
    ap (filter (λ z. not (other (f x) z))) (firsts_map same other f xs (λ a b p q. h a b (inr p) (inr q)))
    ∙ filter_map (λ z. not (other (f x) z)) (λ z. not (same x z)) f (firsts same xs) (λ y i. ap not (h x y (inl refl) (inr (firsts_from same xs y i)))))
