-- Lists of any kind: members, distinct members, facts of all members, lists with a member put at the end, and pairs.
use Rattle.crn_vec.proofs.Prelude.{◌≡◌, ◌⊎◌, ℕ, Bool, true, false, zero, suc, ◌<◌, ◌≤◌, List, [], ◌∷◌, ◌++◌, length, get_or, map, take, set, refl, sym, ap, subst, ◌∙◌, inl, inr, arith, drop, ◌↔◌, IsTrue, ◌||◌, not, Result, Ok, Err, IfOk, AllByRecursion, list_any, flat_map, Decides, cases_Bool, false≢true, append-nil, flat_map-append, list_any-append, take-append_seam, IsIn, AreDistinct}
use Rattle.std.specs.Prelude.{◌&&◌}

pub in_left : {A : Type 0} (x : A) (xs ys : List A) → IsIn x xs → IsIn x (xs ++ ys)
in_left x [] ys h = absurd h
in_left x (y ∷ xs) ys (inl e) = inl e
in_left x (y ∷ xs) ys (inr h) = inr (in_left x xs ys h)

pub in_right : {A : Type 0} (x : A) (xs ys : List A) → IsIn x ys → IsIn x (xs ++ ys)
in_right x [] ys h = h
in_right x (y ∷ xs) ys h = inr (in_right x xs ys h)

pub in_cases : {A : Type 0} (x : A) (xs ys : List A) → IsIn x (xs ++ ys) → IsIn x xs ⊎ IsIn x ys
in_cases x [] ys h = inr h
in_cases x (y ∷ xs) ys (inl e) = inl (inl e)
in_cases x (y ∷ xs) ys (inr h) = elim (in_cases x xs ys h) [ inl a ↦ inl (inr a) | inr b ↦ inr b ]

-- a member of the list with x at its end is x or was there
pub in_push : {A : Type 0} (y : A) (xs : List A) (x : A) → IsIn y (xs ++ x ∷ []) → IsIn y xs ⊎ (y ≡ x)
in_push y xs x h = elim (in_cases y xs (x ∷ []) h) [ inl a ↦ inl a | inr b ↦ elim b [ inl e ↦ inr e | inr c ↦ absurd c ] ]

-- a member of the first members of a list is one of the list
pub in_take : {A : Type 0} (n : ℕ) (xs : List A) (x : A) → IsIn x (take n xs) → IsIn x xs
in_take zero xs x h = absurd h
in_take (suc n) [] x h = absurd h
in_take (suc n) (y ∷ xs) x (inl e) = inl e
in_take (suc n) (y ∷ xs) x (inr h) = inr (in_take n xs x h)

pub long_take : {A : Type 0} (n : ℕ) (xs : List A) → n ≤ length xs → length (take n xs) ≡ n
long_take zero xs h = refl
long_take (suc n) [] h = absurd (omega arith)
long_take (suc n) (x ∷ xs) h = let r = long_take n xs (omega (arith, h)) in omega (arith, r)

pub distinct_push : {A : Type 0} (xs : List A) (x : A) → AreDistinct xs → (IsIn x xs → ⊥) → AreDistinct (xs ++ x ∷ [])
distinct_push [] x h free = (λ i. i, tt)
distinct_push (y ∷ xs) x h free = (λ i. elim (in_push y xs x i) [ inl a ↦ h.0 a | inr e ↦ free (inl (sym e)) ], distinct_push xs x h.1 (λ i. free (inr i)))

pub in_map : {A B : Type 0} (f : A → B) (xs : List A) (y : B) → IsIn y (map f xs) → (x : A) × IsIn x xs × (y ≡ f x)
in_map f [] y h = absurd h
in_map f (x ∷ xs) y (inl e) = (x, inl refl, e)
in_map f (x ∷ xs) y (inr h) = let r = in_map f xs y h in (r.0, inr r.1, r.2)

-- numbers below a bound, each with 1 added, are below the bound with 1 added
pub below_suc : (n : ℕ) (places : List ℕ) → ((k : ℕ) → IsIn k places → k < n) → (k : ℕ) → IsIn k (map suc places) → k < suc n
below_suc n places h k i = let m = in_map suc places k i in let b = h m.0 m.1 in omega (arith, b, m.2)

pub map_in : {A B : Type 0} (f : A → B) (xs : List A) (x : A) → IsIn x xs → IsIn (f x) (map f xs)
map_in f [] x h = absurd h
map_in f (y ∷ xs) x (inl e) = inl (ap f e)
map_in f (y ∷ xs) x (inr h) = inr (map_in f xs x h)

pub map_distinct : {A B : Type 0} (f : A → B) (xs : List A) → AreDistinct xs → ((a b : A) → IsIn a xs → IsIn b xs → f a ≡ f b → a ≡ b) → AreDistinct (map f xs)
map_distinct f [] h inj = tt
map_distinct {A} f (x ∷ xs) h inj = (
  λ i. let r = in_map f xs (f x) i in h.0 (subst (λ (y : A). IsIn y xs) (sym (inj x r.0 (inl refl) (inr r.1) r.2)) r.1),
  map_distinct f xs h.1 (λ a b p q e. inj a b (inr p) (inr q) e),
)

pub map_same : {A B : Type 0} (f g : A → B) (xs : List A) → ((x : A) → IsIn x xs → f x ≡ g x) → map f xs ≡ map g xs
map_same f g [] h = refl
map_same {A} {B} f g (x ∷ xs) h = let rest : map f xs ≡ map g xs = map_same f g xs (λ y i. h y (inr i)) in let here : f x ≡ g x = h x (inl refl) in cc

pub map_twice : {A B C : Type 0} (f : A → B) (g : B → C) (xs : List A) → map g (map f xs) ≡ map (λ x. g (f x)) xs
map_twice f g [] = refl
map_twice {A} {B} {C} f g (x ∷ xs) = ap (λ (t : List C). g (f x) ∷ t) (map_twice f g xs)

pub at_in : {A : Type 0} (xs : List A) (i : ℕ) (d : A) → i < length xs → IsIn (get_or xs i d) xs
at_in [] i d lt = absurd (omega arith)
at_in (x ∷ xs) zero d lt = inl refl
at_in (x ∷ xs) (suc i) d lt = inr (at_in xs i d (omega arith))

pub in_at : {A : Type 0} (x : A) (xs : List A) (d : A) → IsIn x xs → (i : ℕ) × (i < length xs) × (get_or xs i d ≡ x)
in_at x [] d h = absurd h
in_at x (y ∷ xs) d (inl e) = (0, omega arith, sym e)
in_at x (y ∷ xs) d (inr h) = let r = in_at x xs d h in (suc r.0, omega (arith, r.1), r.2)

-- equal members of a list of distinct ones are at one place
pub same_place : {A : Type 0} (xs : List A) (i j : ℕ) (d : A) → AreDistinct xs → i < length xs → j < length xs → get_or xs i d ≡ get_or xs j d → i ≡ j
same_place [] i j d h p q e = absurd (omega arith)
same_place (x ∷ xs) zero zero d h p q e = refl
same_place {A} (x ∷ xs) zero (suc j) d h p q e = absurd (h.0 (subst (λ (y : A). IsIn y xs) (sym e) (at_in xs j d (omega arith))))
same_place {A} (x ∷ xs) (suc i) zero d h p q e = absurd (h.0 (subst (λ (y : A). IsIn y xs) e (at_in xs i d (omega arith))))
same_place (x ∷ xs) (suc i) (suc j) d h p q e = ap suc (same_place xs i j d h.1 (omega arith) (omega arith) e)

pub all_in : {A : Type 0} (P : A → Type 0) (xs : List A) (x : A) → AllByRecursion P xs → IsIn x xs → P x
all_in P [] x h i = absurd i
all_in P (y ∷ xs) x h (inl e) = subst P (sym e) h.0
all_in P (y ∷ xs) x h (inr i) = all_in P xs x h.1 i

pub all_from : {A : Type 0} (P : A → Type 0) (xs : List A) → ((x : A) → IsIn x xs → P x) → AllByRecursion P xs
all_from P [] h = tt
all_from P (x ∷ xs) h = (h x (inl refl), all_from P xs (λ y i. h y (inr i)))

-- by each place
pub all_given : {A : Type 0} (P : A → Type 0) (xs : List A) (d : A) → ((k : ℕ) → k < length xs → P (get_or xs k d)) → AllByRecursion P xs
all_given P [] d h = tt
all_given P (x ∷ xs) d h = (h 0 (omega arith), all_given P xs d (λ k lt. h (suc k) (omega (arith, lt))))

-- what is said past the end says nothing of a place inside
pub any_default : {A : Type 0} (d e : A) (xs : List A) (k : ℕ) → k < length xs → get_or xs k d ≡ get_or xs k e
any_default d e [] k h = absurd (omega arith)
any_default d e (x ∷ xs) zero h = refl
any_default d e (x ∷ xs) (suc k) h = any_default d e xs k (omega arith)

pub all_at : {A : Type 0} (P : A → Type 0) (xs : List A) (i : ℕ) (d : A) → AllByRecursion P xs → i < length xs → P (get_or xs i d)
all_at P xs i d h lt = all_in P xs (get_or xs i d) h (at_in xs i d lt)

pub all_push : {A : Type 0} (P : A → Type 0) (xs : List A) (x : A) → AllByRecursion P xs → P x → AllByRecursion P (xs ++ x ∷ [])
all_push P [] x h p = (p, tt)
all_push P (y ∷ xs) x h p = (h.0, all_push P xs x h.1 p)

pub all_set : {A : Type 0} (P : A → Type 0) (xs : List A) (k : ℕ) (x : A) → AllByRecursion P xs → P x → AllByRecursion P (set xs k x)
all_set P [] k x h p = tt
all_set P (y ∷ xs) zero x h p = (p, h.1)
all_set P (y ∷ xs) (suc k) x h p = (h.0, all_set P xs k x h.1 p)

pub all_map : {A B : Type 0} (P : B → Type 0) (f : A → B) (xs : List A) → ((x : A) → IsIn x xs → P (f x)) → AllByRecursion P (map f xs)
all_map P f [] h = tt
all_map P f (x ∷ xs) h = (h x (inl refl), all_map P f xs (λ y i. h y (inr i)))

-- a list after all of it was written
pub written : {A : Type 0} (n : ℕ) (new old : List A) → length new ≡ n → take n (new ++ drop (length new) old) ≡ new
written n new old e = ap (λ k. take k (new ++ drop (length new) old)) (sym e) ∙ take-append_seam new (drop (length new) old)

-- the first parts of two equal lists are equal if they are as long
pub append_same : {A : Type 0} (a b c d : List A) → length a ≡ length b → a ++ c ≡ b ++ d → a ≡ b
append_same [] [] c d l e = refl
append_same [] (y ∷ b) c d l e = absurd (omega (arith, l))
append_same (x ∷ a) [] c d l e = absurd (omega (arith, l))
append_same {A} (x ∷ a) (y ∷ b) c d l e =
    let rest : a ++ c ≡ b ++ d = cc in
    let less : length a ≡ length b = omega (arith, l) in
    let same : a ≡ b = append_same a b c d less rest in
    let heads : x ≡ y = cc in
    cc

-- names a pair, as `ap₂ pair` needs
abbrev pub pair : {A B : Type 0} → A → B → A × B
pair a b = (a, b)

-- both parts of a conjunction are true
pub and_cases : (a b : Bool) → ((a && b) ≡ true) → (a ≡ true) × (b ≡ true)
and_cases true b h = (refl, h)
and_cases false b h = absurd cc

pub and_true : (a b : Bool) → a ≡ true → b ≡ true → (a && b) ≡ true
and_true true b h g = g
and_true false b h g = h

-- a test of two parts fails if they are not both true
pub and_no : (a b : Bool) → (a ≡ true → b ≡ true → ⊥) → (a && b) ≡ false
and_no true true h = absurd (h refl refl)
and_no true false h = refl
and_no false b h = refl

-- a test and its opposite are not both true
pub not_true : (a : Bool) → not a ≡ true → a ≡ true → ⊥
not_true true e f = cc
not_true false e f = cc

-- a test that fails decides what does not hold
pub refused : {P : Type 0} → (P → ⊥) → (IsTrue false ↔ P)
refused fails = (λ met. absurd (false≢true met), λ h. absurd (fails h))

pub or_right : (a b : Bool) → b ≡ true → (a || b) ≡ true
or_right true b h = refl
or_right false b h = h

-- a list is distinct if its map is
pub distinct_of_map : {A B : Type 0} (f : A → B) (xs : List A) → AreDistinct (map f xs) → AreDistinct xs
distinct_of_map f [] h = tt
distinct_of_map f (x ∷ xs) h = (λ i. h.0 (map_in f xs x i), distinct_of_map f xs h.1)

-- no member of the second part of a distinct list is in the first part
pub apart_of : {A : Type 0} (xs ys : List A) (x : A) → AreDistinct (xs ++ ys) → IsIn x ys → IsIn x xs → ⊥
apart_of [] ys x d i j = j
apart_of {A} (y ∷ xs) ys x d i (inl e) = d.0 (in_right y xs ys (subst (λ (u : A). IsIn u ys) e i))
apart_of (y ∷ xs) ys x d i (inr j) = apart_of xs ys x d.1 i j

pub all_append : {A : Type 0} (P : A → Type 0) (xs ys : List A) → AllByRecursion P xs → AllByRecursion P ys → AllByRecursion P (xs ++ ys)
all_append P [] ys h g = g
all_append P (x ∷ xs) ys h g = (h.0, all_append P xs ys h.1 g)

pub flat_map_push : {A B : Type 0} (f : A → List B) (xs : List A) (x : A) → flat_map f (xs ++ x ∷ []) ≡ flat_map f xs ++ f x
flat_map_push {A} {B} f xs x = flat_map-append f xs (x ∷ []) ∙ ap (λ (t : List B). flat_map f xs ++ t) (append-nil (f x))

pub in_flat_map : {A B : Type 0} (f : A → List B) (xs : List A) (x : A) (y : B) → IsIn x xs → IsIn y (f x) → IsIn y (flat_map f xs)
in_flat_map f [] x y i j = absurd i
in_flat_map {A} f (z ∷ xs) x y (inl e) j = in_left y (f z) (flat_map f xs) (subst (λ (u : A). IsIn y (f u)) e j)
in_flat_map f (z ∷ xs) x y (inr i) j = in_right y (f z) (flat_map f xs) (in_flat_map f xs x y i j)

pub of_flat_map : {A B : Type 0} (f : A → List B) (xs : List A) (y : B) → IsIn y (flat_map f xs) → (x : A) × IsIn x xs × IsIn y (f x)
of_flat_map f [] y i = absurd i
of_flat_map f (z ∷ xs) y i = elim (in_cases y (f z) (flat_map f xs) i) [
  | inl j ↦ (z, inl refl, j)
  | inr j ↦ let p = of_flat_map f xs y j in (p.0, inr p.1, p.2)
]

-- tests that decide equivalent facts are equal
pub same_test : (a b : Bool) (P Q : Type 0) → Decides a P → Decides b Q → (P → Q) → (Q → P) → a ≡ b
same_test a b P Q p q to from =
    elim (cases_Bool a) [
      | inl yes' ↦ let t : b ≡ true = q.1 (to (p.0 yes')) in cc
      | inr no' ↦ elim (cases_Bool b) [ inl yes' ↦ absurd (let t : a ≡ true = p.1 (from (q.0 yes')) in cc) | inr none ↦ cc ]
    ]

-- a test that decides equality with x finds x if and only if x is a member
pub any_is : {A : Type 0} (p : A → Bool) (x : A) (d : (y : A) → Decides (p y) (y ≡ x)) (xs : List A) → ((list_any p xs ≡ true) × IsIn x xs) ⊎ ((list_any p xs ≡ false) × (IsIn x xs → ⊥))
any_is p x d [] = inr (refl, λ h. h)
any_is p x d (y ∷ xs) =
    elim (cases_Bool (p y)) [
      | inl hit ↦ inl (rw hit refl, inl (sym ((d y).0 hit)))
      | inr miss ↦ elim (any_is p x d xs) [
        | inl a ↦ inl (rw miss a.0, inr a.1)
        | inr b ↦ inr (rw miss b.0, λ h. elim h [ inl e ↦ absurd (let t = (d y).1 (sym e) in cc) | inr i ↦ b.1 i ])
      ]
    ]

pub any_true : {A : Type 0} (p : A → Bool) (x : A) (d : (y : A) → Decides (p y) (y ≡ x)) (xs : List A) → list_any p xs ≡ true → IsIn x xs
any_true p x d xs h = elim (any_is p x d xs) [ inl a ↦ a.1 | inr b ↦ absurd (let e = b.0 in cc) ]

pub any_false : {A : Type 0} (p : A → Bool) (x : A) (d : (y : A) → Decides (p y) (y ≡ x)) (xs : List A) → list_any p xs ≡ false → IsIn x xs → ⊥
any_false p x d xs h = elim (any_is p x d xs) [ inl a ↦ absurd (let e = a.0 in cc) | inr b ↦ b.1 ]

-- a test that finds a member finds one that passes
pub any_some : {A : Type 0} (p : A → Bool) (xs : List A) → list_any p xs ≡ true → (x : A) × IsIn x xs × (p x ≡ true)
any_some p [] e = absurd cc
any_some p (x ∷ xs) e = elim (cases_Bool (p x)) [
  | inl hit ↦ (x, inl refl, hit)
  | inr miss ↦ let rest : list_any p xs ≡ true = rw miss at e in let r = any_some p xs rest in (r.0, inr r.1, r.2)
]

-- a test of the members finds one that passes, and one more at the end
pub any_has : (p : ℕ → Bool) (xs : List ℕ) (x : ℕ) → IsIn x xs → p x ≡ true → list_any p xs ≡ true
any_has p [] x i h = absurd i
any_has p (y ∷ ys) x (inl e) h = left (p y) (list_any p ys) (ap p (sym e) ∙ h)
  where
    left : (a b : Bool) → a ≡ true → (a || b) ≡ true
    left true b e = refl
    left false b e = cc
any_has p (y ∷ ys) x (inr i) h = or_right (p y) (list_any p ys) (any_has p ys x i h)

pub any_push : (p : ℕ → Bool) (xs : List ℕ) (x : ℕ) → list_any p xs ≡ false → p x ≡ false → list_any p (xs ++ x ∷ []) ≡ false
any_push p xs x e h = list_any-append p xs (x ∷ []) ∙ ap (λ (a : Bool). a || list_any p (x ∷ [])) e ∙ last (p x) h
  where
    last : (a : Bool) → a ≡ false → (false || (a || false)) ≡ false
    last true e = cc
    last false e = refl

-- what holds of an answer that is there, by what is known of it
pub if_ok : {T E : Type 0} (P Q : T → Type 0) (r : Result T E) → ((x : T) → P x → Q x) → IfOk r P → IfOk r Q
if_ok P Q (Ok x) f h = f x h
if_ok P Q (Err e) f h = tt
