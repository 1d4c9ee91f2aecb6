-- One option more changes the kinds of part A in the same way, whatever the options before.
use Rattle.crn_shelf.proofs.Prelude.{◌≡◌, ◌≢◌, ℕ, zero, suc, ◌+◌, ◌-◌, ◌<◌, ◌≤◌, ◌⊎◌, inl, inr, List, [], ◌∷◌, ◌++◌, length, map, take, drop, Bool, true, cond, refl, sym, ap, ap₂, ◌∙◌, arith, Option, Some, None, nat_lt, lt-ltb, le-ltb, get_or_append_left, get_or-append_right, drop_all, length-append, length-map, take_all, take-append-le, Sign, Zero, Kind, Pos, Neg, NonNeg, ZeroKind, Free, kind_of_sign, row_kinds, Pair, Shape, pair_kind, pair_kind_by, shelf_at, shelf_kinds, top_kind, kind_at, lt_or, length-rows, IsWith, added_kind}

-- the kinds before an option, x and y, and those with it, z and w: neither changes, or nothing was
-- required before, and the same is required then
abbrev IsStep : Kind → Kind → Kind → Kind → Type 0
IsStep x y z w = ((z ≡ x) × (w ≡ y)) ⊎ ((x ≡ Free) × ((y ≡ Free) × (z ≡ w)))

step_by : (x y z w a b c d : Kind) → a ≡ x → b ≡ y → c ≡ z → d ≡ w → IsStep x y z w → IsStep a b c d
step_by x y z w a b c d e f g h (inl s) = inl (g ∙ s.0 ∙ sym e, h ∙ s.1 ∙ sym f)
step_by x y z w a b c d e f g h (inr s) = inr (e ∙ s.0, (f ∙ s.1.0, g ∙ s.1.1 ∙ sym h))

-- a list of kinds for each prefix, coordinate by coordinate
abbrev IsGradual : (List Sign → List Kind) → Type 0
IsGradual f = (p q : List Sign) (o : Sign) (k : ℕ) → length p ≡ length q
    → IsStep (kind_at (f p) k) (kind_at (f q) k) (kind_at (f (p ++ o ∷ [])) k) (kind_at (f (q ++ o ∷ [])) k)

left_at : (xs ys : List Kind) (n k : ℕ) → length xs ≡ n → k < n → kind_at (xs ++ ys) k ≡ kind_at xs k
left_at xs ys n k e lt = get_or_append_left xs ys Free k (omega (arith, e, lt))

right_at : (xs ys : List Kind) (n k : ℕ) → length xs ≡ n → n ≤ k → kind_at (xs ++ ys) k ≡ kind_at ys (k - n)
right_at xs ys n k e le = get_or-append_right xs ys n k Free e le

both_gradual : (f g : List Sign → List Kind) (n : ℕ) → ((p : List Sign) → length (f p) ≡ n) → IsGradual f → IsGradual g → IsGradual (λ p. f p ++ g p)
both_gradual f g n long hf hg p q o k e =
    let p' = p ++ o ∷ [] in
    let q' = q ++ o ∷ [] in
    elim (lt_or k n) as (λ _. IsStep (kind_at (f p ++ g p) k) (kind_at (f q ++ g q) k) (kind_at (f p' ++ g p') k) (kind_at (f q' ++ g q') k)) [
      | inl lt ↦ step_by (kind_at (f p) k) (kind_at (f q) k) (kind_at (f p') k) (kind_at (f q') k) (kind_at (f p ++ g p) k) (kind_at (f q ++ g q) k) (kind_at (f p' ++ g p') k) (kind_at (f q' ++ g q') k)
          (left_at (f p) (g p) n k (long p) lt) (left_at (f q) (g q) n k (long q) lt) (left_at (f p') (g p') n k (long p') lt) (left_at (f q') (g q') n k (long q') lt) (hf p q o k e)
      | inr le ↦ step_by (kind_at (g p) (k - n)) (kind_at (g q) (k - n)) (kind_at (g p') (k - n)) (kind_at (g q') (k - n)) (kind_at (f p ++ g p) k) (kind_at (f q ++ g q) k) (kind_at (f p' ++ g p') k) (kind_at (f q' ++ g q') k)
          (right_at (f p) (g p) n k (long p) le) (right_at (f q) (g q) n k (long q) le) (right_at (f p') (g p') n k (long p') le) (right_at (f q') (g q') n k (long q') le) (hg p q o (k - n) e)
    ]

-- ---- species

rows_step : (n : ℕ) (p q : List Sign) (o : Sign) (k : ℕ) → length p ≡ length q → IsStep (kind_at (row_kinds n p) k) (kind_at (row_kinds n q) k) (kind_at (row_kinds n (p ++ o ∷ [])) k) (kind_at (row_kinds n (q ++ o ∷ [])) k)
rows_step zero p q o k e = inl (refl, refl)
rows_step (suc n) [] [] o zero e = inr (refl, (refl, refl))
rows_step (suc n) [] [] o (suc k) e = inl (refl, refl)
rows_step (suc n) [] (b ∷ q) o k e = absurd (omega (arith, e))
rows_step (suc n) (a ∷ p) [] o k e = absurd (omega (arith, e))
rows_step (suc n) (a ∷ p) (b ∷ q) o zero e = inl (refl, refl)
rows_step (suc n) (a ∷ p) (b ∷ q) o (suc k) e = rows_step n p q o k (omega (arith, e))

rows_gradual : (n c : ℕ) → IsGradual (λ p. row_kinds n (drop c p))
rows_gradual n zero p q o k e = rows_step n p q o k e
rows_gradual n (suc c) [] [] o k e =
    let same : kind_at (row_kinds n (drop c [])) k ≡ kind_at (row_kinds n []) k = ap (λ (r : List Sign). kind_at (row_kinds n r) k) (drop_all c [] (omega arith)) in
    inl (same, same)
rows_gradual n (suc c) [] (b ∷ q) o k e = absurd (omega (arith, e))
rows_gradual n (suc c) (a ∷ p) [] o k e = absurd (omega (arith, e))
rows_gradual n (suc c) (a ∷ p) (b ∷ q) o k e = rows_gradual n c p q o k (omega (arith, e))

-- ---- complexes and pairs, by their shelves

-- the kind that a shelf gives, free if it is not chosen yet
abbrev shelved : (Sign → Kind) → ℕ → List Sign → Kind
shelved kind j t = cond (nat_lt j (length t)) (kind (shelf_at t j)) Free

chosen_stays : (kind : Sign → Kind) (j : ℕ) (t : List Sign) (o : Sign) → j < length t → shelved kind j (t ++ o ∷ []) ≡ shelved kind j t
chosen_stays kind j t o lt =
    let more : nat_lt j (length (t ++ o ∷ [])) ≡ true = lt-ltb j (length (t ++ o ∷ [])) (omega (arith, lt, length-append t (o ∷ []))) in
    ap₂ (λ (b : Bool) (x : Sign). cond b (kind x) Free) (more ∙ sym (lt-ltb j (length t) lt)) (get_or_append_left t (o ∷ []) Zero j lt)

open_is : (kind : Sign → Kind) (j : ℕ) (t : List Sign) → length t ≤ j → shelved kind j t ≡ Free
open_is kind j t le = ap (λ (b : Bool). cond b (kind (shelf_at t j)) Free) (le-ltb j (length t) le)

pub last_at : (t : List Sign) (o : Sign) (j n : ℕ) → length t ≡ n → n ≤ j → shelf_at (t ++ o ∷ []) j ≡ shelf_at (o ∷ []) (j - n)
last_at t o j n e le = get_or-append_right t (o ∷ []) n j Zero e le

same_then : (kind : Sign → Kind) (j : ℕ) (t u : List Sign) (o : Sign) → length t ≡ length u → length u ≤ j → shelved kind j (t ++ o ∷ []) ≡ shelved kind j (u ++ o ∷ [])
same_then kind j t u o e le =
    let long : length (t ++ o ∷ []) ≡ length (u ++ o ∷ []) = omega (arith, e, length-append t (o ∷ []), length-append u (o ∷ [])) in
    ap₂ (λ (n : ℕ) (x : Sign). cond (nat_lt j n) (kind x) Free) long (last_at t o j (length u) e le ∙ sym (last_at u o j (length u) refl le))

shelved_step : (kind : Sign → Kind) (j : ℕ) (t u : List Sign) (o : Sign) → length t ≡ length u → IsStep (shelved kind j t) (shelved kind j u) (shelved kind j (t ++ o ∷ [])) (shelved kind j (u ++ o ∷ []))
shelved_step kind j t u o e = elim (lt_or j (length u)) as (λ _. IsStep (shelved kind j t) (shelved kind j u) (shelved kind j (t ++ o ∷ [])) (shelved kind j (u ++ o ∷ []))) [
  | inl lt ↦ inl (chosen_stays kind j t o (omega (arith, lt, e)), chosen_stays kind j u o lt)
  | inr le ↦ inr (open_is kind j t (omega (arith, le, e)), (open_is kind j u le, same_then kind j t u o e le))
]

-- the same of the first c options
taken_step : (kind : Sign → Kind) (j c : ℕ) (p q : List Sign) (o : Sign) → length p ≡ length q
    → IsStep (shelved kind j (take c p)) (shelved kind j (take c q)) (shelved kind j (take c (p ++ o ∷ []))) (shelved kind j (take c (q ++ o ∷ [])))
taken_step kind j c p q o e = elim (lt_or (length q) c) as (λ _. IsStep (shelved kind j (take c p)) (shelved kind j (take c q)) (shelved kind j (take c (p ++ o ∷ []))) (shelved kind j (take c (q ++ o ∷ [])))) [
  | inl lt ↦ step_by (shelved kind j p) (shelved kind j q) (shelved kind j (p ++ o ∷ [])) (shelved kind j (q ++ o ∷ [])) (shelved kind j (take c p)) (shelved kind j (take c q)) (shelved kind j (take c (p ++ o ∷ []))) (shelved kind j (take c (q ++ o ∷ [])))
      (ap (shelved kind j) (take_all c p (omega (arith, lt, e)))) (ap (shelved kind j) (take_all c q (omega (arith, lt))))
      (ap (shelved kind j) (take_all c (p ++ o ∷ []) (omega (arith, lt, e, length-append p (o ∷ []))))) (ap (shelved kind j) (take_all c (q ++ o ∷ []) (omega (arith, lt, length-append q (o ∷ [])))))
      (shelved_step kind j p q o e)
  | inr le ↦ inl (ap (shelved kind j) (take-append-le c p (o ∷ []) (omega (arith, le, e))), ap (shelved kind j) (take-append-le c q (o ∷ []) le))
]

tops_gradual : (c : ℕ) (tops : List (Option ℕ)) → IsGradual (λ p. map (top_kind (take c p)) tops)
tops_gradual c [] p q o k e = inl (refl, refl)
tops_gradual c (None ∷ tops) p q o zero e = inl (refl, refl)
tops_gradual c (Some j ∷ tops) p q o zero e = taken_step kind_of_sign j c p q o e
tops_gradual c (top ∷ tops) p q o (suc k) e = tops_gradual c tops p q o k e

pairs_gradual : (c : ℕ) (pairs : List Pair) → IsGradual (λ p. map (pair_kind (take c p)) pairs)
pairs_gradual c [] p q o k e = inl (refl, refl)
pairs_gradual c (pair ∷ pairs) p q o zero e = taken_step (λ x. pair_kind_by x pair.sum) pair.top c p q o e
pairs_gradual c (pair ∷ pairs) p q o (suc k) e = pairs_gradual c pairs p q o k e

level_gradual : IsGradual (λ p. Free ∷ [])
level_gradual p q o k e = inl (refl, refl)

shelf_gradual : (s : Shape) → IsGradual (shelf_kinds s)
shelf_gradual s =
    both_gradual (λ p. row_kinds s.species (drop s.count p) ++ Free ∷ []) (λ p. map (top_kind (take s.count p)) s.tops ++ map (pair_kind (take s.count p)) s.pairs) (s.species + 1)
    (λ p. length-append (row_kinds s.species (drop s.count p)) (Free ∷ []) ∙ ap (λ (n : ℕ). n + 1) (length-rows s.species (drop s.count p)))
    (both_gradual (λ p. row_kinds s.species (drop s.count p)) (λ p. Free ∷ []) s.species (λ p. length-rows s.species (drop s.count p)) (rows_gradual s.species s.count) level_gradual)
    (both_gradual (λ p. map (top_kind (take s.count p)) s.tops) (λ p. map (pair_kind (take s.count p)) s.pairs) (length s.tops) (λ p. length-map s.tops (top_kind (take s.count p))) (tops_gradual s.count s.tops) (pairs_gradual s.count s.pairs))

-- ---- what an option adds

added_same : (kind : Kind) → added_kind kind kind ≡ Free
added_same Free = refl
added_same Pos = refl
added_same Neg = refl
added_same NonNeg = refl
added_same ZeroKind = refl

pub added_none : (old kind : Kind) → old ≢ Free → added_kind old kind ≡ Free
added_none Free kind h = absurd (h refl)
added_none Pos kind h = refl
added_none Neg kind h = refl
added_none NonNeg kind h = refl
added_none ZeroKind kind h = refl

pub added_strict : (old kind : Kind) → kind ≢ NonNeg → added_kind old kind ≢ NonNeg
added_strict Free kind h = h
added_strict Pos kind h = λ e. cc
added_strict Neg kind h = λ e. cc
added_strict NonNeg kind h = λ e. cc
added_strict ZeroKind kind h = λ e. cc

step_with : (x y z w : Kind) → IsStep x y z w → IsWith x (added_kind y w) z
step_with x y z w (inl s) =
    let none : added_kind y w ≡ Free = ap (added_kind y) s.1 ∙ added_same y in
    (λ e. s.0 ∙ e ∙ sym none, λ ne. (none, s.0))
step_with x y z w (inr s) = (λ e. s.1.1 ∙ sym (ap (λ (u : Kind). added_kind u w) s.1.0), λ ne. absurd (ne s.0))

-- what an option adds after some options it adds after any
pub adds : (s : Shape) (p q : List Sign) (o : Sign) (k : ℕ) → length p ≡ length q
    → IsWith (kind_at (shelf_kinds s p) k) (added_kind (kind_at (shelf_kinds s q) k) (kind_at (shelf_kinds s (q ++ o ∷ [])) k)) (kind_at (shelf_kinds s (p ++ o ∷ [])) k)
adds s p q o k e = step_with (kind_at (shelf_kinds s p) k) (kind_at (shelf_kinds s q) k) (kind_at (shelf_kinds s (p ++ o ∷ [])) k) (kind_at (shelf_kinds s (q ++ o ∷ [])) k) (shelf_gradual s p q o k e)
