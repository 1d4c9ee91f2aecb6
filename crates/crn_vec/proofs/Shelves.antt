-- A signal is there if and only if some full prefix of its problem is feasible.
use Rattle.crn_vec.proofs.Prelude.{◌≡◌, ◌≢◌, ℕ, zero, suc, ◌+◌, ◌<◌, ◌⊎◌, inl, inr, List, [], ◌∷◌, ◌++◌, length, map, take, drop, replicate, Bool, true, false, ◌&&◌, cond, refl, sym, ap, ap₂, subst, ◌∙◌, arith, eqb, ℤ, pos, negsuc, ◌+ℤ◌, ◌-ℤ◌, ◌*ℤ◌, Option, Some, None, nat_lt, nat_le, ◌||◌, AllZip, AllByRecursion, ints, false≢true, eq-eqb, lt-ltb, length-append, length-map, length-replicate, length-take-le, length-drop, take-append_seam, drop-append_seam, Sign, Zero, Plus, Minus, Kind, Free, Mat, dot, entry, HasSign, Net, IsPartialNetwork, minus, HasKind, IsSolution, IsFull, IsFeasible, opposite, all_zero, SolvesA, SolvesB, sign, image, kind_of_sign, row_kinds, kinds_b_of, Pair, Shape, complex_at, shelf_at, shelf_of, HasPairSign, IsSignal, complex_row, pair_row, shelf_matrix, top_kind, pair_kind_by, pair_kind, signals, IsStoichiometric, IsShape, SignalIfFeasible}
use lib.IntN.{zero-*ℤ}
use Rattle.crn_vec.proofs.TableKinds.{zip_append, zip_prefix, zip_back, length-rows}
use Rattle.crn_vec.proofs.Discordance.{solution_of, parts_of, rows_have, rows_are, frees_have, length-image}
use Rattle.crn_vec.proofs.Level.{minus-dot, all_at, level_zero}
use Rattle.crn_vec.proofs.Ring.{minus_one}

-- ---- rows of the matrix over (mu, level)

pub dot-last : (xs mu : List ℤ) (a b : ℤ) → length xs ≡ length mu → dot (xs ++ a ∷ []) (mu ++ b ∷ []) ≡ dot xs mu +ℤ (a *ℤ b)
dot-last [] [] a b e = omega (arith, ints)
dot-last [] (u ∷ mu) a b e = absurd (omega (arith, e))
dot-last (x ∷ xs) [] a b e = absurd (omega (arith, e))
dot-last (x ∷ xs) (u ∷ mu) a b e = omega (arith, ints, dot-last xs mu a b (omega (arith, e)))

complex_dot : (y mu : List ℤ) (level : ℤ) → length y ≡ length mu → dot (complex_row y) (mu ++ level ∷ []) ≡ dot y mu -ℤ level
complex_dot y mu level e = omega (arith, ints, dot-last y mu (negsuc 0) level e, minus_one level)

length-minus : (xs ys : List ℤ) → length xs ≡ length ys → length (minus xs ys) ≡ length xs
length-minus [] [] e = refl
length-minus [] (y ∷ ys) e = absurd (omega (arith, e))
length-minus (x ∷ xs) [] e = absurd (omega (arith, e))
length-minus (x ∷ xs) (y ∷ ys) e = ap suc (length-minus xs ys (omega (arith, e)))

pair_dot : (s : Shape) (pair : Pair) (mu : List ℤ) (level : ℤ) → length (complex_at s pair.high) ≡ length mu → length (complex_at s pair.low) ≡ length mu
    → dot (pair_row s pair) (mu ++ level ∷ []) ≡ dot (complex_at s pair.high) mu -ℤ dot (complex_at s pair.low) mu
pair_dot s pair mu level h l =
    let same : length (complex_at s pair.high) ≡ length (complex_at s pair.low) = h ∙ sym l in
    omega (arith, ints, dot-last (minus (complex_at s pair.high) (complex_at s pair.low)) mu (pos 0) level (length-minus (complex_at s pair.high) (complex_at s pair.low) same ∙ h), minus-dot (complex_at s pair.high) (complex_at s pair.low) mu same, zero-*ℤ level)

-- ---- signs and kinds

pub kind_has : (t : Sign) (x : ℤ) → HasSign t x → HasKind (kind_of_sign t) x
kind_has Zero x h = h
kind_has Plus x h = h
kind_has Minus x h = h

pub has_kind : (t : Sign) (x : ℤ) → HasKind (kind_of_sign t) x → HasSign t x
has_kind Zero x h = h
has_kind Plus x h = h
has_kind Minus x h = h

pub pair_has : (t : Sign) (h x : ℤ) → HasPairSign t h x → HasKind (pair_kind_by t h) x
pair_has Zero h x k = tt
pair_has Plus h x k = kind_has (sign h) x k
pair_has Minus h x k = kind_has (opposite (sign h)) x k

pub has_pair : (t : Sign) (h x : ℤ) → HasKind (pair_kind_by t h) x → HasPairSign t h x
has_pair Zero h x k = tt
has_pair Plus h x k = has_kind (sign h) x k
has_pair Minus h x k = has_kind (opposite (sign h)) x k

pub chosen : (k n : ℕ) (κ : Kind) → k < n → cond (nat_lt k n) κ Free ≡ κ
chosen k n κ lt = ap (λ (b : Bool). cond b κ Free) (lt-ltb k n lt)

-- a full shelving's kind of a complex, and of a pair
pub top_full : (shelves : List Sign) (n : ℕ) (top : Option ℕ) → length shelves ≡ n → ((k : ℕ) → top ≡ Some k → k < n) → top_kind shelves top ≡ kind_of_sign (shelf_of shelves top)
top_full shelves n None e h = refl
top_full shelves n (Some k) e h = chosen k (length shelves) (kind_of_sign (shelf_at shelves k)) (omega (arith, h k refl, e))

pub pair_full : (shelves : List Sign) (n : ℕ) (pair : Pair) → length shelves ≡ n → pair.top < n → pair_kind shelves pair ≡ pair_kind_by (shelf_at shelves pair.top) pair.sum
pair_full shelves n pair e h = chosen pair.top (length shelves) (pair_kind_by (shelf_at shelves pair.top) pair.sum) (omega (arith, h, e))

-- ---- the rows, both ways

abbrev Wide : List ℤ → List (List ℤ) → Type 0
Wide mu ys = AllByRecursion (λ y. length y ≡ length mu) ys

abbrev Below : ℕ → List (Option ℕ) → Type 0
Below n tops = AllByRecursion (λ top. (k : ℕ) → top ≡ Some k → k < n) tops

tops_have : (shelves : List Sign) (mu : List ℤ) (level : ℤ) (n : ℕ) (tops : List (Option ℕ)) (ys : List (List ℤ)) → length shelves ≡ n → Below n tops → Wide mu ys
    → AllZip (λ top y. HasSign (shelf_of shelves top) (dot y mu -ℤ level)) tops ys → AllZip HasKind (map (top_kind shelves) tops) (map (λ row. dot row (mu ++ level ∷ [])) (map complex_row ys))
tops_have shelves mu level n [] [] e b l h = tt
tops_have shelves mu level n [] (y ∷ ys) e b l h = absurd h
tops_have shelves mu level n (top ∷ tops) [] e b l h = absurd h
tops_have shelves mu level n (top ∷ tops) (y ∷ ys) e b l h = (
  subst (λ (κ : Kind). HasKind κ (dot (complex_row y) (mu ++ level ∷ []))) (sym (top_full shelves n top e b.0)) (subst (λ (x : ℤ). HasKind (kind_of_sign (shelf_of shelves top)) x) (sym (complex_dot y mu level l.0)) (kind_has (shelf_of shelves top) (dot y mu -ℤ level) h.0)),
  tops_have shelves mu level n tops ys e b.1 l.1 h.1,
)

have_tops : (shelves : List Sign) (mu : List ℤ) (level : ℤ) (n : ℕ) (tops : List (Option ℕ)) (ys : List (List ℤ)) → length shelves ≡ n → Below n tops → Wide mu ys
    → AllZip HasKind (map (top_kind shelves) tops) (map (λ row. dot row (mu ++ level ∷ [])) (map complex_row ys)) → AllZip (λ top y. HasSign (shelf_of shelves top) (dot y mu -ℤ level)) tops ys
have_tops shelves mu level n [] [] e b l h = tt
have_tops shelves mu level n [] (y ∷ ys) e b l h = absurd h
have_tops shelves mu level n (top ∷ tops) [] e b l h = absurd h
have_tops shelves mu level n (top ∷ tops) (y ∷ ys) e b l h = (
  has_kind (shelf_of shelves top) (dot y mu -ℤ level) (subst (λ (x : ℤ). HasKind (kind_of_sign (shelf_of shelves top)) x) (complex_dot y mu level l.0) (subst (λ (κ : Kind). HasKind κ (dot (complex_row y) (mu ++ level ∷ []))) (top_full shelves n top e b.0) h.0)),
  have_tops shelves mu level n tops ys e b.1 l.1 h.1,
)

-- the pairs' complexes are as wide as mu
abbrev PairsWide : Shape → List ℤ → ℕ → List Pair → Type 0
PairsWide s mu n pairs = AllByRecursion (λ pair. (pair.top < n) × (length (complex_at s pair.high) ≡ length mu) × (length (complex_at s pair.low) ≡ length mu)) pairs

abbrev OverPairs : Shape → List Sign → List ℤ → List Pair → Type 0
OverPairs s shelves mu pairs = AllByRecursion (λ pair. HasPairSign (shelf_at shelves pair.top) pair.sum (dot (complex_at s pair.high) mu -ℤ dot (complex_at s pair.low) mu)) pairs

pairs_have : (s : Shape) (shelves : List Sign) (mu : List ℤ) (level : ℤ) (n : ℕ) (pairs : List Pair) → length shelves ≡ n → PairsWide s mu n pairs → OverPairs s shelves mu pairs
    → AllZip HasKind (map (pair_kind shelves) pairs) (map (λ row. dot row (mu ++ level ∷ [])) (map (pair_row s) pairs))
pairs_have s shelves mu level n [] e b h = tt
pairs_have s shelves mu level n (pair ∷ pairs) e b h =
    let d = dot (complex_at s pair.high) mu -ℤ dot (complex_at s pair.low) mu in (
      subst (λ (κ : Kind). HasKind κ (dot (pair_row s pair) (mu ++ level ∷ []))) (sym (pair_full shelves n pair e b.0.0))
          (subst (λ (x : ℤ). HasKind (pair_kind_by (shelf_at shelves pair.top) pair.sum) x) (sym (pair_dot s pair mu level b.0.1 b.0.2)) (pair_has (shelf_at shelves pair.top) pair.sum d h.0)),
      pairs_have s shelves mu level n pairs e b.1 h.1,
    )

have_pairs : (s : Shape) (shelves : List Sign) (mu : List ℤ) (level : ℤ) (n : ℕ) (pairs : List Pair) → length shelves ≡ n → PairsWide s mu n pairs
    → AllZip HasKind (map (pair_kind shelves) pairs) (map (λ row. dot row (mu ++ level ∷ [])) (map (pair_row s) pairs)) → OverPairs s shelves mu pairs
have_pairs s shelves mu level n [] e b h = tt
have_pairs s shelves mu level n (pair ∷ pairs) e b h =
    let d = dot (complex_at s pair.high) mu -ℤ dot (complex_at s pair.low) mu in (
      has_pair (shelf_at shelves pair.top) pair.sum d
          (subst (λ (x : ℤ). HasKind (pair_kind_by (shelf_at shelves pair.top) pair.sum) x) (pair_dot s pair mu level b.0.1 b.0.2)
          (subst (λ (κ : Kind). HasKind κ (dot (pair_row s pair) (mu ++ level ∷ []))) (pair_full shelves n pair e b.0.0) h.0)),
      have_pairs s shelves mu level n pairs e b.1 h.1,
    )

wide_pairs : (s : Shape) (mu : List ℤ) (pairs : List Pair) → Wide mu s.complexes → AllByRecursion (λ pair. (pair.top < s.count) × (pair.low < length s.complexes) × (pair.high < length s.complexes)) pairs → PairsWide s mu s.count pairs
wide_pairs s mu [] w h = tt
wide_pairs s mu (pair ∷ pairs) w h =
    ((h.0.0, all_at (λ y. length y ≡ length mu) s.complexes [] pair.high h.0.2 w, all_at (λ y. length y ≡ length mu) s.complexes [] pair.low h.0.1 w), wide_pairs s mu pairs w h.1)

wide_all : (mu : List ℤ) (n : ℕ) (ys : List (List ℤ)) → length mu ≡ n → AllByRecursion (λ y. length y ≡ n) ys → Wide mu ys
wide_all mu n [] e h = tt
wide_all mu n (y ∷ ys) e h = (h.0 ∙ sym e, wide_all mu n ys e h.1)

pub map-append : {A B : Type 0} (f : A → B) (xs ys : List A) → map f (xs ++ ys) ≡ map f xs ++ map f ys
map-append f [] ys = refl
map-append f (x ∷ xs) ys = ap (λ t. f x ∷ t) (map-append f xs ys)

-- ---- middle shelves

middle : (shelves : List Sign) (k : ℕ) → all_zero shelves ≡ true → shelf_at shelves k ≡ Zero
middle [] k e = refl
middle (Zero ∷ shelves) zero e = refl
middle (Zero ∷ shelves) (suc k) e = middle shelves k e
middle (Plus ∷ shelves) k e = absurd (false≢true e)
middle (Minus ∷ shelves) k e = absurd (false≢true e)

middle_of : (shelves : List Sign) (top : Option ℕ) → all_zero shelves ≡ true → shelf_of shelves top ≡ Zero
middle_of shelves None e = refl
middle_of shelves (Some k) e = middle shelves k e

level_all : (shelves : List Sign) (mu : List ℤ) (level : ℤ) (tops : List (Option ℕ)) (ys : List (List ℤ)) → all_zero shelves ≡ true → AllZip (λ top y. HasSign (shelf_of shelves top) (dot y mu -ℤ level)) tops ys → AllByRecursion (λ y. dot y mu -ℤ level ≡ pos 0) ys
level_all shelves mu level [] [] e h = tt
level_all shelves mu level [] (y ∷ ys) e h = absurd h
level_all shelves mu level (top ∷ tops) [] e h = absurd h
level_all shelves mu level (top ∷ tops) (y ∷ ys) e h = (subst (λ (t : Sign). HasSign t (dot y mu -ℤ level)) (middle_of shelves top e) h.0, level_all shelves mu level tops ys e h.1)

zero_signs : (xs : List ℤ) → all_zero (map sign xs) ≡ true → (k : ℕ) → entry xs k ≡ pos 0
zero_signs [] e k = refl
zero_signs (pos zero ∷ xs) e zero = refl
zero_signs (pos zero ∷ xs) e (suc k) = zero_signs xs e k
zero_signs (pos (suc n) ∷ xs) e k = absurd (false≢true e)
zero_signs (negsuc n ∷ xs) e k = absurd (false≢true e)

-- some entry is not 0, or all signs are zero
some_entry : (xs : List ℤ) → (all_zero (map sign xs) ≡ true) ⊎ ((k : ℕ) × (entry xs k ≢ pos 0))
some_entry [] = inl refl
some_entry (pos zero ∷ xs) = elim (some_entry xs) [ inl e ↦ inl e | inr h ↦ inr (suc h.0, h.1) ]
some_entry (pos (suc n) ∷ xs) = inr (0, λ e. omega (arith, ints, e))
some_entry (negsuc n ∷ xs) = inr (0, λ e. omega (arith, ints, e))

is_false : (b : Bool) → ¬ (b ≡ true) → b ≡ false
is_false true n = absurd (n refl)
is_false false n = refl

neither : (a b c d : Bool) → b ≡ false → d ≡ false → ((a && b) || (c && d)) ≡ false
neither true b true d e f = rw (e, f) refl
neither true b false d e f = rw e refl
neither false b true d e f = f
neither false b false d e f = refl

length-sign : (xs : List ℤ) → length (map sign xs) ≡ length xs
length-sign [] = refl
length-sign (x ∷ xs) = ap suc (length-sign xs)

-- the kinds of part A by the shelves and the species' signs
abbrev kinds_from : Shape → List Sign → List Sign → List Kind
kinds_from s shelves signs = (row_kinds s.species signs ++ Free ∷ []) ++ (map (top_kind shelves) s.tops ++ map (pair_kind shelves) s.pairs)

rows_image : (s : Shape) (x : List ℤ) → image (shelf_matrix s) x ≡ map (λ row. dot row x) (map complex_row s.complexes) ++ map (λ row. dot row x) (map (pair_row s) s.pairs)
rows_image s x = map-append (λ row. dot row x) (map complex_row s.complexes) (map (pair_row s) s.pairs)

pub feasible_by : (net : Net) (s : Shape) (m : Mat) → IsPartialNetwork net → IsStoichiometric net m → IsShape net s → (shelves : List Sign) (mu : List ℤ) (level : ℤ) (weights : List ℤ) → IsSignal s m shelves mu level weights → (p : List Sign) × IsFull (signals s m) p × IsFeasible (signals s m) p
feasible_by net s m part st sh shelves mu level weights sg =
    let signs : List Sign = map sign mu in
    let p : List Sign = shelves ++ signs in
    let prefix : take s.count p ≡ shelves = ap (λ (n : ℕ). take n p) (sym sg.long_shelves) ∙ take-append_seam shelves signs in
    let back : drop s.count p ≡ signs = ap (λ (n : ℕ). drop n p) (sym sg.long_shelves) ∙ drop-append_seam shelves signs in
    let wide : Wide mu s.complexes = wide_all mu s.species s.complexes sg.long_mu sh.widths in
    let x : List ℤ = mu ++ level ∷ [] in
    let not_level : ¬ (all_zero shelves ≡ true) = λ e. sg.some.1 (level_zero net m mu level weights part st (sg.long_mu ∙ sh.species ∙ sym st.species) sg.long_weights
    (subst (λ (ys : List (List ℤ)). AllByRecursion (λ y. dot y mu -ℤ level ≡ pos 0) ys) sh.complexes (level_all shelves mu level s.tops s.complexes e sg.lies)) sg.same sg.some.0) in
    let not_zero : ¬ (all_zero signs ≡ true) = λ e. sg.some.1 (zero_signs mu e sg.some.0) in
    let rows : AllZip HasKind (map (top_kind shelves) s.tops ++ map (pair_kind shelves) s.pairs) (image (shelf_matrix s) x) = subst (λ (l : List ℤ). AllZip HasKind (map (top_kind shelves) s.tops ++ map (pair_kind shelves) s.pairs) l) (sym (rows_image s x))
    (zip_append HasKind (map (top_kind shelves) s.tops) (map (λ row. dot row x) (map complex_row s.complexes)) (map (pair_kind shelves) s.pairs) (map (λ row. dot row x) (map (pair_row s) s.pairs))
    (tops_have shelves mu level s.count s.tops s.complexes sg.long_shelves sh.tops_below wide sg.lies)
    (pairs_have s shelves mu level s.count s.pairs sg.long_shelves (wide_pairs s mu s.pairs wide sh.pairs_below) sg.over_pairs)) in
    let columns : AllZip HasKind (row_kinds s.species signs ++ Free ∷ []) x = zip_append HasKind (row_kinds s.species signs) mu (Free ∷ []) (level ∷ []) (rows_have s.species mu sg.long_mu) (tt, tt) in (
      p,
      omega (arith, length-append shelves signs, length-sign mu, sg.long_shelves, sg.long_mu),
      record {
        opened = neither (nat_le s.count (length p)) (all_zero (take s.count p)) (eqb (length p) (s.count + s.species)) (all_zero (drop s.count p))
            (ap all_zero prefix ∙ is_false (all_zero shelves) not_level) (ap all_zero back ∙ is_false (all_zero signs) not_zero);
        part_a = (
          x,
          subst (λ (ks : List Kind). IsSolution (shelf_matrix s) ks x) (sym (ap₂ (λ (a b : List Sign). kinds_from s a b) prefix back))
              (solution_of (shelf_matrix s) (row_kinds s.species signs ++ Free ∷ []) (map (top_kind shelves) s.tops ++ map (pair_kind shelves) s.pairs) x (length-append mu (level ∷ []) ∙ ap (λ (n : ℕ). n + 1) sg.long_mu) columns rows),
        );
        part_b = (
          weights,
          subst (λ (q : List Sign). IsSolution m (kinds_b_of m q) weights) (sym (back ∙ sg.same))
              (solution_of m (replicate m.cols Free) (row_kinds (length m.rows) (map sign (image m weights))) weights sg.long_weights (frees_have m.cols weights sg.long_weights) (rows_have (length m.rows) (image m weights) (length-image m weights))),
        );
      },
    )

last_of : (x : List ℤ) (n : ℕ) → length x ≡ n + 1 → x ≡ take n x ++ entry x n ∷ []
last_of [] n e = absurd (omega (arith, e))
last_of (y ∷ []) zero e = refl
last_of (y ∷ z ∷ x) zero e = absurd (omega (arith, e))
last_of (y ∷ x) (suc n) e = ap (λ (t : List ℤ). y ∷ t) (last_of x n (omega (arith, e)))

pub prefix_zip : (ks qs : List Kind) (v u : List ℤ) → length ks ≡ length v → AllZip HasKind (ks ++ qs) (v ++ u) → AllZip HasKind ks v
prefix_zip ks qs v u e h = subst (λ (l : List ℤ). AllZip HasKind ks l) (ap (λ (n : ℕ). take n (v ++ u)) e ∙ take-append_seam v u) (zip_prefix HasKind ks qs (v ++ u) h)

pub back_zip : (ks qs : List Kind) (v u : List ℤ) → length ks ≡ length v → AllZip HasKind (ks ++ qs) (v ++ u) → AllZip HasKind qs u
back_zip ks qs v u e h = subst (λ (l : List ℤ). AllZip HasKind qs l) (ap (λ (n : ℕ). drop n (v ++ u)) e ∙ drop-append_seam v u) (zip_back HasKind ks qs (v ++ u) h)

or_false : (a b c d : Bool) → c ≡ true → ((a && b) || (c && d)) ≡ false → d ≡ false
or_false true true c d e h = absurd cc
or_false true false true d e h = h
or_false true false false d e h = absurd cc
or_false false b true d e h = h
or_false false b false d e h = absurd cc

pub signal_named : (net : Net) (s : Shape) (m : Mat) → IsStoichiometric net m → IsShape net s → (p : List Sign) (x weights : List ℤ) → IsFull (signals s m) p → (signals s m).closed p ≡ false → SolvesA (signals s m) p x → SolvesB (signals s m) p weights → IsSignal s m (take s.count p) (take s.species x) (entry x s.species) weights
signal_named net s m st sh p x weights f o sa sb =
    let shelves : List Sign = take s.count p in
    let q : List Sign = drop s.count p in
    let long_shelves : length shelves ≡ s.count = length-take-le s.count p (omega (arith, f)) in
    let long_q : length q ≡ s.species = omega (arith, length-drop s.count p, f) in
    let mu : List ℤ = take s.species x in
    let level : ℤ = entry x s.species in
    let tops : List Kind = map (top_kind shelves) s.tops in
    let pairs : List Kind = map (pair_kind shelves) s.pairs in
    let a = parts_of (shelf_matrix s) (row_kinds s.species q ++ Free ∷ []) (tops ++ pairs) x (length-append (row_kinds s.species q) (Free ∷ []) ∙ ap (λ (n : ℕ). n + 1) (length-rows s.species q)) sa in
    let b = parts_of m (replicate m.cols Free) (row_kinds (length m.rows) q) weights (length-replicate m.cols Free) sb in
    let is : x ≡ mu ++ level ∷ [] = last_of x s.species a.long in
    let long_mu : length mu ≡ s.species = length-take-le s.species x (omega (arith, a.long)) in
    let wide : Wide mu s.complexes = wide_all mu s.species s.complexes long_mu sh.widths in
    let columns : AllZip HasKind (row_kinds s.species q) mu = prefix_zip (row_kinds s.species q) (Free ∷ []) mu (level ∷ []) (length-rows s.species q ∙ sym long_mu) (subst (λ (l : List ℤ). AllZip HasKind (row_kinds s.species q ++ Free ∷ []) l) is a.columns) in
    let q_is : q ≡ map sign mu = rows_are s.species q mu long_q columns in
    let q_too : q ≡ map sign (image m weights) = rows_are (length m.rows) q (image m weights) (long_q ∙ sh.species ∙ sym st.species) b.rows in
    let y : List ℤ = mu ++ level ∷ [] in
    let rows : AllZip HasKind (tops ++ pairs) (map (λ row. dot row y) (map complex_row s.complexes) ++ map (λ row. dot row y) (map (pair_row s) s.pairs)) =
    subst (λ (l : List ℤ). AllZip HasKind (tops ++ pairs) l) (ap (image (shelf_matrix s)) is ∙ rows_image s y) a.rows in
    let even : length tops ≡ length (map (λ row. dot row y) (map complex_row s.complexes)) = length-map s.tops (top_kind shelves) ∙ sh.tops ∙ sym (length-map (map complex_row s.complexes) (λ row. dot row y) ∙ length-map s.complexes complex_row) in record {
      long_shelves = long_shelves;
      long_mu = long_mu;
      long_weights = b.long;
      lies = have_tops shelves mu level s.count s.tops s.complexes long_shelves sh.tops_below wide
          (prefix_zip tops pairs (map (λ row. dot row y) (map complex_row s.complexes)) (map (λ row. dot row y) (map (pair_row s) s.pairs)) even rows);
      over_pairs = have_pairs s shelves mu level s.count s.pairs long_shelves (wide_pairs s mu s.pairs wide sh.pairs_below)
          (back_zip tops pairs (map (λ row. dot row y) (map complex_row s.complexes)) (map (λ row. dot row y) (map (pair_row s) s.pairs)) even rows);
      some = elim (some_entry mu) as (λ _. (k : ℕ) × (entry mu k ≢ pos 0)) [
        | inr h ↦ h
        | inl z ↦ absurd (false≢true (sym (or_false (nat_le s.count (length p)) (all_zero shelves) (eqb (length p) (s.count + s.species)) (all_zero q) (eq-eqb (length p) (s.count + s.species) f) o) ∙ ap all_zero q_is ∙ z))
      ];
      same = sym q_is ∙ q_too;
    }

pub signal_by : (net : Net) (s : Shape) (m : Mat) → IsStoichiometric net m → IsShape net s → (p : List Sign) → IsFull (signals s m) p → IsFeasible (signals s m) p → (shelves : List Sign) × (mu : List ℤ) × (level : ℤ) × (weights : List ℤ) × IsSignal s m shelves mu level weights
signal_by net s m st sh p f sd = (take s.count p, take s.species sd.part_a.0, entry sd.part_a.0 s.species, sd.part_b.0, signal_named net s m st sh p sd.part_a.0 sd.part_b.0 f sd.opened sd.part_a.1 sd.part_b.1)

pub shelves_feasible : (net : Net) (s : Shape) (m : Mat) → IsPartialNetwork net → IsStoichiometric net m → IsShape net s → SignalIfFeasible s m
shelves_feasible net s m part st sh = record { feasible = feasible_by net s m part st sh; named = signal_named net s m st sh; signal = signal_by net s m st sh }
