-- No kind that the sign problem of signals asks is that of numbers of at least 0.
use Rattle.crn_shelf.proofs.Prelude.{◌≢◌, ℕ, zero, suc, List, [], ◌∷◌, ◌++◌, length, map, take, drop, Bool, true, false, ℤ, if◌then◌else◌, nat_lt, AllByRecursion, Sign, Zero, Plus, Minus, Kind, NonNeg, ZeroKind, Free, kind_of_sign, row_kinds, sign, opposite, Pair, Shape, pair_kind, pair_kind_by, shelf_at, shelf_kinds, top_kind, kind_at}
use Rattle.std.proofs.Common.{Option, Some, None}

-- a kind other than that of numbers of at least 0
abbrev IsStrict : Kind → Type 0
IsStrict kind = kind ≢ NonNeg

zero_strict : IsStrict ZeroKind
zero_strict e = cc

free_strict : IsStrict Free
free_strict e = cc

sign_strict : (s : Sign) → IsStrict (kind_of_sign s)
sign_strict Zero e = cc
sign_strict Plus e = cc
sign_strict Minus e = cc

if_strict : (b : Bool) (k : Kind) → IsStrict k → IsStrict (if b then k else Free)
if_strict true k h = h
if_strict false k h = free_strict

top_strict : (p : List Sign) (top : Option ℕ) → IsStrict (top_kind p top)
top_strict p None = zero_strict
top_strict p (Some k) = if_strict (nat_lt k (length p)) (kind_of_sign (shelf_at p k)) (sign_strict (shelf_at p k))

by_strict : (s : Sign) (h : ℤ) → IsStrict (pair_kind_by s h)
by_strict Zero h = free_strict
by_strict Plus h = sign_strict (sign h)
by_strict Minus h = sign_strict (opposite (sign h))

pair_strict : (p : List Sign) (pair : Pair) → IsStrict (pair_kind p pair)
pair_strict p pair = if_strict (nat_lt pair.top (length p)) (pair_kind_by (shelf_at p pair.top) pair.sum) (by_strict (shelf_at p pair.top) pair.sum)

rows_strict : (n : ℕ) (p : List Sign) → AllByRecursion IsStrict (row_kinds n p)
rows_strict zero p = tt
rows_strict (suc n) [] = (free_strict, rows_strict n [])
rows_strict (suc n) (s ∷ p) = (sign_strict s, rows_strict n p)

map_strict : {X : Type 0} (f : X → Kind) → ((x : X) → IsStrict (f x)) → (xs : List X) → AllByRecursion IsStrict (map f xs)
map_strict f h [] = tt
map_strict f h (x ∷ xs) = (h x, map_strict f h xs)

both_strict : (xs ys : List Kind) → AllByRecursion IsStrict xs → AllByRecursion IsStrict ys → AllByRecursion IsStrict (xs ++ ys)
both_strict [] ys h g = g
both_strict (x ∷ xs) ys h g = (h.0, both_strict xs ys h.1 g)

at_strict : (xs : List Kind) (k : ℕ) → AllByRecursion IsStrict xs → IsStrict (kind_at xs k)
at_strict [] k h = free_strict
at_strict (x ∷ xs) zero h = h.0
at_strict (x ∷ xs) (suc k) h = at_strict xs k h.1

pub shelf_strict : (s : Shape) (p : List Sign) (k : ℕ) → kind_at (shelf_kinds s p) k ≢ NonNeg
shelf_strict s p k =
    let tops = map_strict (top_kind (take s.count p)) (top_strict (take s.count p)) s.tops in
    let pairs = map_strict (pair_kind (take s.count p)) (pair_strict (take s.count p)) s.pairs in
    let rows = both_strict (row_kinds s.species (drop s.count p)) (Free ∷ []) (rows_strict s.species (drop s.count p)) (free_strict, tt) in
    at_strict (shelf_kinds s p) k (both_strict (row_kinds s.species (drop s.count p) ++ Free ∷ []) (map (top_kind (take s.count p)) s.tops ++ map (pair_kind (take s.count p)) s.pairs) rows
    (both_strict (map (top_kind (take s.count p)) s.tops) (map (pair_kind (take s.count p)) s.pairs) tops pairs))
