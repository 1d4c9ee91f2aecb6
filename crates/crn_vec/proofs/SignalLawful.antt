-- The problem of signals keeps what every sign problem keeps.
use Rattle.crn_vec.proofs.Prelude.{◌≡◌, ℕ, zero, suc, ◌+◌, ◌-◌, ◌≤◌, ◌<◌, ◌⊎◌, inl, inr, List, [], ◌∷◌, ◌++◌, length, map, take, drop, replicate, Bool, true, false, ◌&&◌, cond, refl, sym, ap, ap₂, subst, ◌∙◌, arith, eqb, lit≤, ℤ, Option, Some, None, nat_lt, nat_le, ◌||◌, AllZip, ints, eqb-true, ltb-true, lt-ltb, leb-true, length-append, length-map, length-replicate, take-map, drop-map, append-nil, MAX_SPECIES, MAX_COMPLEXES, MAX_SIGNED, Sign, Zero, Plus, Minus, Kind, Free, Mat, opposite, mirror, all_zero, IsLawful, IsSteady, sign, kind_of_sign, row_kinds, kinds_b_of, Pair, Shape, shelf_at, complex_row, pair_row, shelf_matrix, top_kind, pair_kind_by, pair_kind, shelf_kinds, is_shelf_closed, signals, IsFew}
use Rattle.crn_vec.proofs.Mirrors.{length-mirror, opposite-opposite}
use Rattle.crn_vec.proofs.TableKinds.{zip_append, Refines, refines_same, rows_longer, Mirrored, rows_opposite, frees_opposite, sign_opposite, length-rows, count_at_most, count-append, count_none}
use Rattle.crn_vec.proofs.TableLawful.{solution_refined, solution_opposite, all_zero-mirror, no_more}

-- ---- both parts of longer prefixes

take-append : (n : ℕ) (p q : List Sign) → take n (p ++ q) ≡ take n p ++ take (n - length p) q
take-append n [] q = let e : n - 0 ≡ n = omega arith in rw e (none n)
  where
    none : (n : ℕ) → take n q ≡ take n [] ++ take n q
    none zero = refl
    none (suc n) = refl
take-append zero (s ∷ p) q = let e : 0 - suc (length p) ≡ 0 = omega arith in rw e refl
take-append (suc n) (s ∷ p) q = let e : suc n - suc (length p) ≡ n - length p = omega arith in rw e (ap (λ (t : List Sign). s ∷ t) (take-append n p q))

drop-append : (n : ℕ) (p q : List Sign) → drop n (p ++ q) ≡ drop n p ++ drop (n - length p) q
drop-append n [] q = let e : n - 0 ≡ n = omega arith in rw e (none n)
  where
    none : (n : ℕ) → drop n q ≡ drop n [] ++ drop n q
    none zero = refl
    none (suc n) = refl
drop-append zero (s ∷ p) q = let e : 0 - suc (length p) ≡ 0 = omega arith in rw e refl
drop-append (suc n) (s ∷ p) q = let e : suc n - suc (length p) ≡ n - length p = omega arith in rw e (drop-append n p q)

-- ---- longer prefixes

at_prefix : (t rest : List Sign) (k : ℕ) → k < length t → shelf_at (t ++ rest) k ≡ shelf_at t k
at_prefix [] rest k lt = absurd (omega (arith, lt))
at_prefix (s ∷ t) rest zero lt = refl
at_prefix (s ∷ t) rest (suc k) lt = at_prefix t rest k (omega (arith, lt))

-- a kind that is free until its choice is made, and stays then
kept : (t rest : List Sign) (k : ℕ) (kind : Sign → Kind) → Refines (cond (nat_lt k (length (t ++ rest))) (kind (shelf_at (t ++ rest) k)) Free) (cond (nat_lt k (length t)) (kind (shelf_at t k)) Free)
kept t rest k kind = by (nat_lt k (length t)) refl
  where
    by : (b : Bool) → nat_lt k (length t) ≡ b → Refines (cond (nat_lt k (length (t ++ rest))) (kind (shelf_at (t ++ rest) k)) Free) (cond (nat_lt k (length t)) (kind (shelf_at t k)) Free)
    by false e = inl (ap (λ (b : Bool). cond b (kind (shelf_at t k)) Free) e)
    by true e =
        let lt : k < length t = ltb-true k (length t) e in
        let more : nat_lt k (length (t ++ rest)) ≡ true = lt-ltb k (length (t ++ rest)) (omega (arith, lt, length-append t rest)) in
        inr (ap₂ (λ (b : Bool) (x : Sign). cond b (kind x) Free) more (at_prefix t rest k lt) ∙ sym (ap (λ (b : Bool). cond b (kind (shelf_at t k)) Free) e))

tops_longer : (t rest : List Sign) (tops : List (Option ℕ)) → AllZip Refines (map (top_kind (t ++ rest)) tops) (map (top_kind t) tops)
tops_longer t rest [] = tt
tops_longer t rest (None ∷ tops) = (inr refl, tops_longer t rest tops)
tops_longer t rest (Some k ∷ tops) = (kept t rest k kind_of_sign, tops_longer t rest tops)

pairs_longer : (t rest : List Sign) (pairs : List Pair) → AllZip Refines (map (pair_kind (t ++ rest)) pairs) (map (pair_kind t) pairs)
pairs_longer t rest [] = tt
pairs_longer t rest (pair ∷ pairs) = (kept t rest pair.top (λ x. pair_kind_by x pair.sum), pairs_longer t rest pairs)

abbrev from : Shape → List Sign → List Sign → List Kind
from s t q = (row_kinds s.species q ++ Free ∷ []) ++ (map (top_kind t) s.tops ++ map (pair_kind t) s.pairs)

kinds_longer : (s : Shape) (t q rest more : List Sign) → AllZip Refines (from s (t ++ rest) (q ++ more)) (from s t q)
kinds_longer s t q rest more =
    zip_append Refines (row_kinds s.species (q ++ more) ++ Free ∷ []) (row_kinds s.species q ++ Free ∷ []) (map (top_kind (t ++ rest)) s.tops ++ map (pair_kind (t ++ rest)) s.pairs) (map (top_kind t) s.tops ++ map (pair_kind t) s.pairs)
    (zip_append Refines (row_kinds s.species (q ++ more)) (row_kinds s.species q) (Free ∷ []) (Free ∷ []) (rows_longer s.species q more) (inl refl, tt))
    (zip_append Refines (map (top_kind (t ++ rest)) s.tops) (map (top_kind t) s.tops) (map (pair_kind (t ++ rest)) s.pairs) (map (pair_kind t) s.pairs) (tops_longer t rest s.tops) (pairs_longer t rest s.pairs))

shelf_longer : (s : Shape) (p rest : List Sign) → AllZip Refines (shelf_kinds s (p ++ rest)) (shelf_kinds s p)
shelf_longer s p rest = subst (λ (ks : List Kind). AllZip Refines ks (shelf_kinds s p)) (sym (ap₂ (from s) (take-append s.count p rest) (drop-append s.count p rest)))
    (kinds_longer s (take s.count p) (drop s.count p) (take (s.count - length p) rest) (drop (s.count - length p) rest))

-- ---- mirrored prefixes

at_mirror : (t : List Sign) (k : ℕ) → shelf_at (mirror t) k ≡ opposite (shelf_at t k)
at_mirror [] k = refl
at_mirror (s ∷ t) zero = refl
at_mirror (s ∷ t) (suc k) = at_mirror t k

free_opposite : (b : Bool) (κ' κ : Kind) → Mirrored κ' κ → Mirrored (cond b κ' Free) (cond b κ Free)
free_opposite true κ' κ h = h
free_opposite false κ' κ h = λ x k. tt

pair_opposite : (t : Sign) (h : ℤ) → Mirrored (pair_kind_by (opposite t) h) (pair_kind_by t h)
pair_opposite Zero h = λ x k. tt
pair_opposite Plus h = sign_opposite (sign h)
pair_opposite Minus h = subst (λ (t : Sign). Mirrored (kind_of_sign t) (kind_of_sign (opposite (sign h)))) (opposite-opposite (sign h)) (sign_opposite (opposite (sign h)))

opposite_at : (t : List Sign) (k : ℕ) (kind : Sign → Kind) → ((x : Sign) → Mirrored (kind (opposite x)) (kind x)) → Mirrored (cond (nat_lt k (length (mirror t))) (kind (shelf_at (mirror t) k)) Free) (cond (nat_lt k (length t)) (kind (shelf_at t k)) Free)
opposite_at t k kind h = subst (λ (κ : Kind). Mirrored κ (cond (nat_lt k (length t)) (kind (shelf_at t k)) Free)) (sym (ap₂ (λ (n : ℕ) (x : Sign). cond (nat_lt k n) (kind x) Free) (length-mirror t) (at_mirror t k)))
    (free_opposite (nat_lt k (length t)) (kind (opposite (shelf_at t k))) (kind (shelf_at t k)) (h (shelf_at t k)))

tops_opposite : (t : List Sign) (tops : List (Option ℕ)) → AllZip Mirrored (map (top_kind (mirror t)) tops) (map (top_kind t) tops)
tops_opposite t [] = tt
tops_opposite t (None ∷ tops) = (λ x k. omega (arith, ints, k), tops_opposite t tops)
tops_opposite t (Some k ∷ tops) = (opposite_at t k kind_of_sign sign_opposite, tops_opposite t tops)

pairs_opposite : (t : List Sign) (pairs : List Pair) → AllZip Mirrored (map (pair_kind (mirror t)) pairs) (map (pair_kind t) pairs)
pairs_opposite t [] = tt
pairs_opposite t (pair ∷ pairs) = (opposite_at t pair.top (λ x. pair_kind_by x pair.sum) (λ x. pair_opposite x pair.sum), pairs_opposite t pairs)

kinds_opposite : (s : Shape) (t q : List Sign) → AllZip Mirrored (from s (mirror t) (mirror q)) (from s t q)
kinds_opposite s t q =
    zip_append Mirrored (row_kinds s.species (mirror q) ++ Free ∷ []) (row_kinds s.species q ++ Free ∷ []) (map (top_kind (mirror t)) s.tops ++ map (pair_kind (mirror t)) s.pairs) (map (top_kind t) s.tops ++ map (pair_kind t) s.pairs)
    (zip_append Mirrored (row_kinds s.species (mirror q)) (row_kinds s.species q) (Free ∷ []) (Free ∷ []) (rows_opposite s.species q) (λ x k. tt, tt))
    (zip_append Mirrored (map (top_kind (mirror t)) s.tops) (map (top_kind t) s.tops) (map (pair_kind (mirror t)) s.pairs) (map (pair_kind t) s.pairs) (tops_opposite t s.tops) (pairs_opposite t s.pairs))

shelf_opposite : (s : Shape) (p : List Sign) → AllZip Mirrored (shelf_kinds s (mirror p)) (shelf_kinds s p)
shelf_opposite s p = subst (λ (ks : List Kind). AllZip Mirrored ks (shelf_kinds s p)) (sym (ap₂ (from s) (take-map opposite s.count p) (drop-map opposite s.count p))) (kinds_opposite s (take s.count p) (drop s.count p))

-- ---- closed prefixes

or_cases : (a b c d : Bool) → ((a && b) || (c && d)) ≡ true → ((a ≡ true) × (b ≡ true)) ⊎ ((c ≡ true) × (d ≡ true))
or_cases true true c d e = inl (refl, refl)
or_cases true false true true e = inr (refl, refl)
or_cases true false true false e = absurd cc
or_cases true false false d e = absurd cc
or_cases false b true true e = inr (refl, refl)
or_cases false b true false e = absurd cc
or_cases false b false d e = absurd cc

or_first : (a b c d : Bool) → a ≡ true → b ≡ true → ((a && b) || (c && d)) ≡ true
or_first a b c d e f = rw (e, f) refl

le_more : (a b c : ℕ) → nat_le a b ≡ true → b ≤ c → nat_le a c ≡ true
le_more a b c e le = grind (arith)

closed_longer : (s : Shape) (p rest : List Sign) → length (p ++ rest) ≤ s.count + s.species → is_shelf_closed s p ≡ true → is_shelf_closed s (p ++ rest) ≡ true
closed_longer s p rest le e = elim (or_cases (nat_le s.count (length p)) (all_zero (take s.count p)) (eqb (length p) (s.count + s.species)) (all_zero (drop s.count p)) e) as (λ _. is_shelf_closed s (p ++ rest) ≡ true) [
  | inl h ↦
      let enough : s.count ≤ length p = leb-true s.count (length p) h.0 in
      let none : s.count - length p ≡ 0 = omega (arith, enough) in
      let same : take s.count (p ++ rest) ≡ take s.count p = take-append s.count p rest ∙ ap (λ (n : ℕ). take s.count p ++ take n rest) none ∙ append-nil (take s.count p) in
      or_first (nat_le s.count (length (p ++ rest))) (all_zero (take s.count (p ++ rest))) (eqb (length (p ++ rest)) (s.count + s.species)) (all_zero (drop s.count (p ++ rest)))
      (le_more s.count (length p) (length (p ++ rest)) h.0 (omega (arith, length-append p rest))) (ap all_zero same ∙ h.1)
  | inr h ↦
      let full : length p ≡ s.count + s.species = eqb-true (length p) (s.count + s.species) h.0 in
      let same : p ++ rest ≡ p = ap (λ (r : List Sign). p ++ r) (no_more p rest (s.count + s.species) le full) ∙ append-nil p in
      ap (is_shelf_closed s) same ∙ e
]

mirrored_closed : (s : Shape) (p : List Sign) → is_shelf_closed s (mirror p) ≡ is_shelf_closed s p
mirrored_closed s p =
    let prefix : all_zero (take s.count (mirror p)) ≡ all_zero (take s.count p) = ap all_zero (take-map opposite s.count p) ∙ all_zero-mirror (take s.count p) in
    let back : all_zero (drop s.count (mirror p)) ≡ all_zero (drop s.count p) = ap all_zero (drop-map opposite s.count p) ∙ all_zero-mirror (drop s.count p) in
    ap₂ (λ (n : ℕ) (b : Bool × Bool). (nat_le s.count n && b.0) || (eqb n (s.count + s.species) && b.1)) (length-mirror p) (ap₂ (λ (x y : Bool). (x, y)) prefix back)

-- ---- lengths and numbers

pub signals_are_steady : (s : Shape) (m : Mat) → IsSteady (signals s m)
signals_are_steady s m = record {
  shorter_a = λ p rest x le h. solution_refined (shelf_matrix s) (shelf_kinds s (p ++ rest)) (shelf_kinds s p) x (shelf_longer s p rest) h;
  shorter_b = λ p rest x le h. solution_refined m (kinds_b_of m (drop s.count (p ++ rest))) (kinds_b_of m (drop s.count p)) x
      (zip_append Refines (replicate m.cols Free) (replicate m.cols Free) (row_kinds (length m.rows) (drop s.count (p ++ rest))) (row_kinds (length m.rows) (drop s.count p)) (refines_same (replicate m.cols Free))
      (subst (λ (q : List Sign). AllZip Refines (row_kinds (length m.rows) q) (row_kinds (length m.rows) (drop s.count p))) (sym (drop-append s.count p rest)) (rows_longer (length m.rows) (drop s.count p) (drop (s.count - length p) rest)))) h;
  mirrored_a = λ p x le h. solution_opposite (shelf_matrix s) (shelf_kinds s (mirror p)) (shelf_kinds s p) x (shelf_opposite s p) h;
  mirrored_b = λ p x le h. solution_opposite m (kinds_b_of m (drop s.count (mirror p))) (kinds_b_of m (drop s.count p)) x
      (zip_append Mirrored (replicate m.cols Free) (replicate m.cols Free) (row_kinds (length m.rows) (drop s.count (mirror p))) (row_kinds (length m.rows) (drop s.count p)) (frees_opposite m.cols)
      (subst (λ (q : List Sign). AllZip Mirrored (row_kinds (length m.rows) q) (row_kinds (length m.rows) (drop s.count p))) (sym (drop-map opposite s.count p)) (rows_opposite (length m.rows) (drop s.count p)))) h;
  longer_closed = closed_longer s;
  mirror_closed = λ p le. mirrored_closed s p;
}

pub signals_are_lawful : (s : Shape) (m : Mat) → IsFew s m → IsLawful (signals s m)
signals_are_lawful s m f = record {
  long_a = λ p le.
      let t = take s.count p in
      let q = drop s.count p in
      omega (
        arith,
        length-append (row_kinds s.species q ++ Free ∷ []) (map (top_kind t) s.tops ++ map (pair_kind t) s.pairs),
        length-append (row_kinds s.species q) (Free ∷ []),
        length-rows s.species q,
        length-append (map (top_kind t) s.tops) (map (pair_kind t) s.pairs),
        length-map s.tops (top_kind t),
        length-map s.pairs (pair_kind t),
        f.tops,
        length-append (map complex_row s.complexes) (map (pair_row s) s.pairs),
        length-map s.complexes complex_row,
        length-map s.pairs (pair_row s),
      );
  long_b = λ p le. length-append (replicate m.cols Free) (row_kinds (length m.rows) (drop s.count p)) ∙ ap₂ (λ (i j : ℕ). i + j) (length-replicate m.cols Free) (length-rows (length m.rows) (drop s.count p));
  shorter_a = (signals_are_steady s m).shorter_a;
  shorter_b = (signals_are_steady s m).shorter_b;
  mirrored_a = (signals_are_steady s m).mirrored_a;
  mirrored_b = (signals_are_steady s m).mirrored_b;
  longer_closed = (signals_are_steady s m).longer_closed;
  mirror_closed = (signals_are_steady s m).mirror_closed;
  few_a = λ p le.
      let t = take s.count p in
      let q = drop s.count p in
      let sum : MAX_SPECIES + MAX_COMPLEXES + MAX_COMPLEXES ≤ MAX_SIGNED + 1 = lit≤ tt in
      omega (
        arith,
        sum,
        f.species,
        f.complexes,
        f.pairs,
        f.tops,
        count-append (row_kinds s.species q ++ Free ∷ []) (map (top_kind t) s.tops ++ map (pair_kind t) s.pairs),
        count-append (row_kinds s.species q) (Free ∷ []),
        count_at_most (row_kinds s.species q),
        length-rows s.species q,
        count-append (map (top_kind t) s.tops) (map (pair_kind t) s.pairs),
        count_at_most (map (top_kind t) s.tops),
        count_at_most (map (pair_kind t) s.pairs),
        length-map s.tops (top_kind t),
        length-map s.pairs (pair_kind t),
      );
  few_b = λ p le.
      let q = drop s.count p in
      let sum : MAX_SPECIES ≤ MAX_SIGNED = lit≤ tt in
      omega (arith, sum, f.species, f.rows, count-append (replicate m.cols Free) (row_kinds (length m.rows) q), count_none m.cols Free refl, count_at_most (row_kinds (length m.rows) q), length-rows (length m.rows) q);
}
