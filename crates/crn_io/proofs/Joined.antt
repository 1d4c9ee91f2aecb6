-- Texts that a loop writes one by one, joined by a separator or not at all.
use Rattle.crn_io.proofs.Prelude.{◌≡◌, ℕ, zero, suc, ◌+◌, ◌<◌, List, [], ◌∷◌, ◌++◌, length, take, drop, get_or, refl, sym, ap, ◌∙◌, append_assoc, add-one, arith, append-nil, flat_map-append, flat_map, joined, with_separator}

-- ---- texts with nothing between them

flat_map_take : {X : Type 0} (f : X → List ℕ) (xs : List X) (i : ℕ) (d : X) → i < length xs → flat_map f (take (suc i) xs) ≡ flat_map f (take i xs) ++ f (get_or xs i d)
flat_map_take f [] i d lt = absurd (omega arith)
flat_map_take f (x ∷ xs) zero d lt = append-nil (f x)
flat_map_take f (x ∷ xs) (suc i) d lt = ap (λ (t : List ℕ). f x ++ t) (flat_map_take f xs i d (omega arith)) ∙ sym (append_assoc (f x) (flat_map f (take i xs)) (f (get_or xs i d)))

-- one text more
pub flat_map_step : {X : Type 0} (f : X → List ℕ) (xs : List X) (i : ℕ) (d : X) → i < length xs → flat_map f (take (i + 1) xs) ≡ flat_map f (take i xs) ++ f (get_or xs i d)
flat_map_step f xs i d lt = rw add-one (flat_map_take f xs i d lt)

-- the texts before one, that one, and those after it
pub flat_map_whole : {X Y : Type 0} (f : X → List Y) (xs : List X) (i : ℕ) (d : X) → i < length xs → flat_map f xs ≡ (flat_map f (take i xs) ++ f (get_or xs i d)) ++ flat_map f (drop (suc i) xs)
flat_map_whole f [] i d lt = absurd (omega arith)
flat_map_whole f (x ∷ xs) zero d lt = refl
flat_map_whole {X} {Y} f (x ∷ xs) (suc i) d lt =
    ap (λ (t : List Y). f x ++ t) (flat_map_whole f xs i d (omega arith))
    ∙ sym (append_assoc (f x) (flat_map f (take i xs) ++ f (get_or xs i d)) (flat_map f (drop (suc i) xs)))
    ∙ ap (λ (t : List Y). t ++ flat_map f (drop (suc i) xs)) (sym (append_assoc (f x) (flat_map f (take i xs)) (f (get_or xs i d))))

-- ---- texts with a separator between them

-- the first text has no separator before it
pub with_separator_first : (separator x : List ℕ) (i : ℕ) → i ≡ 0 → with_separator separator i x ≡ x
with_separator_first separator x zero e = refl
with_separator_first separator x (suc i) e = absurd (omega arith)

-- any other has one
pub with_separator_next : (separator x : List ℕ) (i : ℕ) → 0 < i → with_separator separator i x ≡ separator ++ x
with_separator_next separator x zero lt = absurd (omega arith)
with_separator_next separator x (suc i) lt = refl

-- a text of two parts
pub with_separator_parts : (separator x y : List ℕ) (i : ℕ) → with_separator separator i (x ++ y) ≡ with_separator separator i x ++ y
with_separator_parts separator x y zero = refl
with_separator_parts separator x y (suc i) = sym (append_assoc separator x y)

joined_take : (separator : List ℕ) (xs : List (List ℕ)) (i : ℕ) → i < length xs → joined separator (take (suc i) xs) ≡ joined separator (take i xs) ++ with_separator separator i (get_or xs i [])
joined_take separator [] i lt = absurd (omega arith)
joined_take separator (x ∷ xs) zero lt = append-nil x
joined_take separator (x ∷ xs) (suc i) lt =
    ap (λ (t : List ℕ). x ++ t) (flat_map_take (λ y. separator ++ y) xs i [] (omega arith)) ∙ sym (append_assoc x (flat_map (λ y. separator ++ y) (take i xs)) (separator ++ get_or xs i []))

-- one text more
pub joined_step : (separator : List ℕ) (xs : List (List ℕ)) (i : ℕ) → i < length xs → joined separator (take (i + 1) xs) ≡ joined separator (take i xs) ++ with_separator separator i (get_or xs i [])
joined_step separator xs i lt = rw add-one (joined_take separator xs i lt)

-- the texts before one, that one, and those after it
pub joined_whole : (separator : List ℕ) (xs : List (List ℕ)) (i : ℕ) → i < length xs
    → joined separator xs ≡ (joined separator (take i xs) ++ with_separator separator i (get_or xs i [])) ++ flat_map (λ y. separator ++ y) (drop (suc i) xs)
joined_whole separator [] i lt = absurd (omega arith)
joined_whole separator (x ∷ xs) zero lt = refl
joined_whole separator (x ∷ xs) (suc i) lt =
    ap (λ (t : List ℕ). x ++ t) (flat_map_whole (λ y. separator ++ y) xs i [] (omega arith))
    ∙ sym (append_assoc x (flat_map (λ y. separator ++ y) (take i xs) ++ (separator ++ get_or xs i [])) (flat_map (λ y. separator ++ y) (drop (suc i) xs)))
    ∙ ap (λ (t : List ℕ). t ++ flat_map (λ y. separator ++ y) (drop (suc i) xs)) (sym (append_assoc x (flat_map (λ y. separator ++ y) (take i xs)) (separator ++ get_or xs i [])))

-- a text at the end
pub joined_push : (separator : List ℕ) (xs : List (List ℕ)) (x : List ℕ) → joined separator (xs ++ x ∷ []) ≡ joined separator xs ++ with_separator separator (length xs) x
joined_push separator [] x = append-nil x
joined_push separator (y ∷ xs) x =
    ap (λ (t : List ℕ). y ++ t) (flat_map-append (λ z. separator ++ z) xs (x ∷ []) ∙ ap (λ (t : List ℕ). flat_map (λ z. separator ++ z) xs ++ t) (append-nil (separator ++ x))) ∙ sym (append_assoc y _ _)

-- a text at the end, and more texts after it
pub joined_more : (separator : List ℕ) (xs more : List (List ℕ)) (x : List ℕ) → joined separator ((xs ++ x ∷ []) ++ more) ≡ (joined separator xs ++ with_separator separator (length xs) x) ++ flat_map (λ z. separator ++ z) more
joined_more separator [] more x = refl
joined_more separator (y ∷ xs) more x =
    ap (λ (t : List ℕ). y ++ t)
    (flat_map-append (λ z. separator ++ z) (xs ++ x ∷ []) more
    ∙ ap (λ (t : List ℕ). t ++ flat_map (λ z. separator ++ z) more) (flat_map-append (λ z. separator ++ z) xs (x ∷ []) ∙ ap (λ (t : List ℕ). flat_map (λ z. separator ++ z) xs ++ t) (append-nil (separator ++ x))))
    ∙ simp append_assoc
