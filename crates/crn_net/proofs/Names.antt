-- The names of a table with the new names of a side.
use Rattle.crn_net.proofs.Prelude.{◌≡◌, ℕ, ◌<◌, ◌≤◌, ◌+◌, List, [], ◌∷◌, ◌++◌, length, get_or, take, drop, map, refl, sym, ap, subst, ◌∙◌, append_assoc, arith, bytes_eq, bytes_eq-Decides, append-nil, map_more, map-append, take-append-drop, take-append-le, length-take, length_push, take_all, IsIn, AreDistinct, firsts, Term, name_at, side_of, names_in, Statement, firsts_has, firsts_from, firsts_known, firsts_new, firsts_length, firsts_all, firsts_firsts}

pub no_more : (old : List (List ℕ)) → AreDistinct old → old ≡ firsts bytes_eq (old ++ [])
no_more old h = sym (ap (firsts bytes_eq) (append-nil old) ∙ firsts_all bytes_eq bytes_eq-Decides old h)

one_more : (old : List (List ℕ)) (text : List ℕ) (side : List Term) (i : ℕ) (d : Term) → i < length side → old ++ map (name_at text) (take (i + 1) side) ≡ (old ++ map (name_at text) (take i side)) ++ name_at text (get_or side i d) ∷ []
one_more old text side i d lt = ap (λ (t : List (List ℕ)). old ++ t) (map_more (name_at text) side i d lt) ∙ sym (append_assoc old (map (name_at text) (take i side)) (name_at text (get_or side i d) ∷ []))

pub names_known : (old names : List (List ℕ)) (text : List ℕ) (side : List Term) (i : ℕ) (d : Term) → i < length side → names ≡ firsts bytes_eq (old ++ map (name_at text) (take i side)) → IsIn (name_at text (get_or side i d)) names
    → names ≡ firsts bytes_eq (old ++ map (name_at text) (take (i + 1) side))
names_known old names text side i d lt is h =
    let x = name_at text (get_or side i d) in
    let prefix = old ++ map (name_at text) (take i side) in
    let there : IsIn x prefix = firsts_from bytes_eq prefix x (subst (λ (t : List (List ℕ)). IsIn x t) is h) in
    is ∙ sym (ap (firsts bytes_eq) (one_more old text side i d lt) ∙ firsts_known bytes_eq bytes_eq-Decides prefix x there)

pub names_new : (old names : List (List ℕ)) (text : List ℕ) (side : List Term) (i : ℕ) (d : Term) → i < length side → names ≡ firsts bytes_eq (old ++ map (name_at text) (take i side)) → (IsIn (name_at text (get_or side i d)) names → ⊥)
    → names ++ name_at text (get_or side i d) ∷ [] ≡ firsts bytes_eq (old ++ map (name_at text) (take (i + 1) side))
names_new old names text side i d lt is h =
    let x = name_at text (get_or side i d) in
    let prefix = old ++ map (name_at text) (take i side) in
    let free : IsIn x prefix → ⊥ = λ k. h (subst (λ (t : List (List ℕ)). IsIn x t) (sym is) (firsts_has bytes_eq bytes_eq-Decides prefix x k)) in
    ap (λ (t : List (List ℕ)). t ++ x ∷ []) is ∙ sym (ap (firsts bytes_eq) (one_more old text side i d lt) ∙ firsts_new bytes_eq bytes_eq-Decides prefix x free)

pub names_over : (old names : List (List ℕ)) (text : List ℕ) (side : List Term) (i : ℕ) (d : Term) (limit : ℕ) → i < length side → names ≡ firsts bytes_eq (old ++ map (name_at text) (take i side)) → (IsIn (name_at text (get_or side i d)) names → ⊥) → limit ≤ length names
    → limit < length (firsts bytes_eq (old ++ map (name_at text) side))
names_over old names text side i d limit lt is h le =
    let x = name_at text (get_or side i d) in
    let f = name_at text in
    let new = ap length (names_new old names text side i d lt is h) in
    let long = length_push names x in
    let whole : old ++ map f side ≡ (old ++ map f (take (i + 1) side)) ++ map f (drop (i + 1) side) =
    ap (λ (t : List (List ℕ)). old ++ t) (ap (map f) (sym (take-append-drop (i + 1) side)) ∙ map-append f (take (i + 1) side) (drop (i + 1) side)) ∙ sym (append_assoc old (map f (take (i + 1) side)) (map f (drop (i + 1) side))) in
    let more = firsts_length bytes_eq (old ++ map f (take (i + 1) side)) (map f (drop (i + 1) side)) in
    let all = ap (λ (t : List (List ℕ)). length (firsts bytes_eq t)) whole in
    omega (arith, new, long, more, all)

-- ---- a prefix that stays

pub kept_push : {A : Type 0} (old new : List A) (x : A) → take (length old) new ≡ old → take (length old) (new ++ x ∷ []) ≡ old
kept_push old new x h =
    let long = ap length h in
    let least = length-take (length old) new in
    let le : length old ≤ length new = omega (arith, long, least) in
    take-append-le (length old) new (x ∷ []) le ∙ h

pub kept_all : {A : Type 0} (old : List A) → take (length old) old ≡ old
kept_all old = take_all (length old) old (omega arith)

-- ---- the names of both sides

pub names_of_side : (text : List ℕ) (side : List Term) → map (λ t. t.0) (side_of text side) ≡ map (name_at text) side
names_of_side text [] = refl
names_of_side text (t ∷ side) = ap (λ (r : List (List ℕ)). name_at text t ∷ r) (names_of_side text side)

-- first the names of one side, then those of the other
pub names_both : (old middle : List (List ℕ)) (s : Statement) → middle ≡ firsts bytes_eq (old ++ map (λ t. t.0) s.0) → firsts bytes_eq (middle ++ map (λ t. t.0) s.1) ≡ firsts bytes_eq (old ++ names_in s)
names_both old middle s is =
    let l = map (λ t. t.0) s.0 in
    let r = map (λ t. t.0) s.1 in
    ap (λ (t : List (List ℕ)). firsts bytes_eq (t ++ r)) is ∙ firsts_firsts bytes_eq bytes_eq-Decides (old ++ l) r ∙ ap (firsts bytes_eq) (append_assoc old l r)

pub left_over : (old : List (List ℕ)) (s : Statement) (limit : ℕ) → limit < length (firsts bytes_eq (old ++ map (λ t. t.0) s.0)) → limit < length (firsts bytes_eq (old ++ names_in s))
left_over old s limit lt =
    let l = map (λ t. t.0) s.0 in
    let r = map (λ t. t.0) s.1 in
    let more = firsts_length bytes_eq (old ++ l) r in
    let is = ap (λ (t : List (List ℕ)). length (firsts bytes_eq t)) (append_assoc old l r) in
    omega (arith, more, is, lt)
