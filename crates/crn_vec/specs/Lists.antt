-- Lists: membership, distinct members, first occurrences, ascending order.
use Rattle.std.specs.Prelude.{◌≡◌, ◌<◌, ◌⊎◌, not, ℕ, Bool, List, [], ◌∷◌, filter}

-- x is a member of the list
abbrev pub IsIn : {A : Type 0} → A → List A → Type 0
IsIn x [] = ⊥
IsIn x (y ∷ ys) = (x ≡ y) ⊎ IsIn x ys

-- no two members are equal
abbrev pub AreDistinct : {A : Type 0} → List A → Type 0
AreDistinct [] = Unit {0}
AreDistinct (x ∷ xs) = (IsIn x xs → ⊥) × AreDistinct xs

-- the members with every later repeat dropped, by a test of equality
abbrev pub firsts : {A : Type 0} → (A → A → Bool) → List A → List A
firsts same [] = []
firsts same (x ∷ xs) = x ∷ filter (λ y. not (same x y)) (firsts same xs)

-- the list is ascending, and its first member is above k
abbrev pub IsAbove : ℕ → List ℕ → Type 0
IsAbove k [] = Unit {0}
IsAbove k (x ∷ xs) = (k < x) × IsAbove x xs

-- each member is less than the next
abbrev pub IsAscending : List ℕ → Type 0
IsAscending [] = Unit {0}
IsAscending (x ∷ xs) = IsAbove x xs
