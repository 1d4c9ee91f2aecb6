-- Texts that a loop writes: the members of a list, one after another.
use Rattle.crn_render.proofs.Prelude.{◌≡◌, ℕ, suc, ◌+◌, ◌<◌, ◌≤◌, List, [], ◌++◌, length, take, drop, get_or, ap, ◌∙◌, arith, take_all, get_or-map, length-map, flat_map, map, joined, with_separator, joined_step, joined_whole}

-- one member more
pub mapped_step : {A : Type 0} (separator : List ℕ) (f : A → List ℕ) (xs : List A) (i : ℕ) (d : A) → i < length xs
    → joined separator (take (i + 1) (map f xs)) ≡ joined separator (take i (map f xs)) ++ with_separator separator i (f (get_or xs i d))
mapped_step separator f xs i d lt =
    let in_map : i < length (map f xs) = simp length-map lt in
    joined_step separator (map f xs) i in_map ∙ ap (λ (t : List ℕ). joined separator (take i (map f xs)) ++ with_separator separator i t) (get_or-map f xs i d [] lt)

-- the members before one, that one, and those after it
pub mapped_whole : {A : Type 0} (separator : List ℕ) (f : A → List ℕ) (xs : List A) (i : ℕ) (d : A) → i < length xs
    → joined separator (map f xs) ≡ (joined separator (take i (map f xs)) ++ with_separator separator i (f (get_or xs i d))) ++ flat_map (λ y. separator ++ y) (drop (suc i) (map f xs))
mapped_whole separator f xs i d lt =
    let in_map : i < length (map f xs) = simp length-map lt in
    joined_whole separator (map f xs) i in_map
    ∙ ap (λ (t : List ℕ). (joined separator (take i (map f xs)) ++ with_separator separator i t) ++ flat_map (λ y. separator ++ y) (drop (suc i) (map f xs))) (get_or-map f xs i d [] lt)

-- all members
pub mapped_all : {A : Type 0} (f : A → List ℕ) (xs : List A) (i : ℕ) → i ≡ length xs → take i (map f xs) ≡ map f xs
mapped_all f xs i e =
    let le : length (map f xs) ≤ i = simp length-map (omega arith) in
    take_all i (map f xs) le
