-- A table is discordant if and only if some full prefix of its problem is feasible.
use Rattle.crn_vec.proofs.Prelude.{◌≡◌, ℕ, zero, suc, ◌+◌, ◌<◌, ◌⊎◌, inl, inr, List, [], ◌∷◌, ◌++◌, length, get_or, map, drop, take, replicate, Bool, true, false, ◌&&◌, cond, refl, sym, ap, ap₂, subst, ◌∙◌, arith, eqb, ℤ, pos, negsuc, AllZip, AllByRecursion, ints, false≢true, eq-eqb, length-append, length-replicate, length-drop, get_or-drop, ext_get_or, length-map, take-append_seam, Sign, Zero, Plus, Minus, Kind, Pos, Neg, Free, ZeroKind, Mat, dot, entry, InRowSpace, HasKind, IsSolution, IsFull, IsFeasible, all_zero, SolvesA, SolvesB, IsTable, IsDiscordant, GoesWith, IsNought, HasPositive, HasNegative, image, shares, signed_by, product, products, is_plus, is_minus, some_sign, kind_of_sum, column_kind, kind_of_sign, row_kinds, concordance, sign, DiscordantIfFeasible}
use Rattle.crn_vec.proofs.Entries.{zip_long}
use Rattle.crn_vec.proofs.TableKinds.{zip_append, zip_prefix, zip_back, length-columns}

pub length-image : (m : Mat) (z : List ℤ) → length (image m z) ≡ length m.rows
length-image m z = by m.rows
  where
    by : (rows : List (List ℤ)) → length (map (λ row. dot row z) rows) ≡ length rows
    by [] = refl
    by (r ∷ rows) = ap suc (by rows)

-- ---- signs of shares

-- the sign of a share is the product of the signs
pub share_sign : (s : Sign) (x : ℤ) → sign (signed_by s x) ≡ product s (sign x)
share_sign Zero x = refl
share_sign Plus x = refl
share_sign Minus (pos zero) = refl
share_sign Minus (pos (suc n)) = refl
share_sign Minus (negsuc n) = refl

signs-shares : (ss : List Sign) (xs : List ℤ) → map sign (shares ss xs) ≡ products ss (map sign xs)
signs-shares [] xs = refl
signs-shares (s ∷ ss) [] = refl
signs-shares (s ∷ ss) (x ∷ xs) = ap₂ (λ (t : Sign) (ts : List Sign). t ∷ ts) (share_sign s x) (signs-shares ss xs)

plus_has : (xs : List ℤ) → some_sign is_plus (map sign xs) ≡ true → HasPositive xs
plus_has [] e = absurd (false≢true e)
plus_has (pos zero ∷ xs) e = inr (plus_has xs e)
plus_has (pos (suc n) ∷ xs) e = inl (omega (arith, ints))
plus_has (negsuc n ∷ xs) e = inr (plus_has xs e)

has_plus : (xs : List ℤ) → HasPositive xs → some_sign is_plus (map sign xs) ≡ true
has_plus [] h = absurd h
has_plus (pos zero ∷ xs) (inl h) = absurd (omega (arith, ints, h))
has_plus (pos zero ∷ xs) (inr h) = has_plus xs h
has_plus (pos (suc n) ∷ xs) h = refl
has_plus (negsuc n ∷ xs) (inl h) = absurd (omega (arith, ints, h))
has_plus (negsuc n ∷ xs) (inr h) = has_plus xs h

minus_has : (xs : List ℤ) → some_sign is_minus (map sign xs) ≡ true → HasNegative xs
minus_has [] e = absurd (false≢true e)
minus_has (pos zero ∷ xs) e = inr (minus_has xs e)
minus_has (pos (suc n) ∷ xs) e = inr (minus_has xs e)
minus_has (negsuc n ∷ xs) e = inl (omega (arith, ints))

has_minus : (xs : List ℤ) → HasNegative xs → some_sign is_minus (map sign xs) ≡ true
has_minus [] h = absurd h
has_minus (pos zero ∷ xs) (inl h) = absurd (omega (arith, ints, h))
has_minus (pos zero ∷ xs) (inr h) = has_minus xs h
has_minus (pos (suc n) ∷ xs) (inl h) = absurd (omega (arith, ints, h))
has_minus (pos (suc n) ∷ xs) (inr h) = has_minus xs h
has_minus (negsuc n ∷ xs) h = refl

-- no plus and no minus: all are 0
none_is : (xs : List ℤ) → some_sign is_plus (map sign xs) ≡ false → some_sign is_minus (map sign xs) ≡ false → AllByRecursion IsNought xs
none_is [] p m = tt
none_is (pos zero ∷ xs) p m = (refl, none_is xs p m)
none_is (pos (suc n) ∷ xs) p m = absurd (false≢true (sym p))
none_is (negsuc n ∷ xs) p m = absurd (false≢true (sym m))

nought_none : (xs : List ℤ) → AllByRecursion IsNought xs → (some_sign is_plus (map sign xs) ≡ false) × (some_sign is_minus (map sign xs) ≡ false)
nought_none [] h = (refl, refl)
nought_none (pos zero ∷ xs) h = nought_none xs h.1
nought_none (pos (suc n) ∷ xs) h = absurd (omega (arith, ints, h.0))
nought_none (negsuc n ∷ xs) h = absurd (omega (arith, ints, h.0))

-- ---- one reaction

-- the kind of a full prefix's column, by the shares
column_full : (ss : List Sign) (xs : List ℤ) → length ss ≡ length xs → column_kind ss (map sign xs) ≡ kind_of_sum (some_sign is_plus (map sign (shares ss xs))) (some_sign is_minus (map sign (shares ss xs)))
column_full ss xs e =
    let none : drop (length (map sign xs)) ss ≡ [] = ap (λ (n : ℕ). drop n ss) (length-map xs sign ∙ sym e) ∙ drop_all ss in
    ap (λ (l : List Sign). cond (all_zero l) (kind_of_sum (some_sign is_plus (products ss (map sign xs))) (some_sign is_minus (products ss (map sign xs)))) Free) none
    ∙ ap₂ kind_of_sum (ap (some_sign is_plus) (sym (signs-shares ss xs))) (ap (some_sign is_minus) (sym (signs-shares ss xs)))
  where
    drop_all : (l : List Sign) → drop (length l) l ≡ []
    drop_all [] = refl
    drop_all (s ∷ l) = drop_all l

-- a number that goes with shares is of the kind of their sum
goes_kind : (shs : List ℤ) (x : ℤ) → GoesWith shs x → HasKind (kind_of_sum (some_sign is_plus (map sign shs)) (some_sign is_minus (map sign shs))) x
goes_kind shs x g = by (some_sign is_plus (map sign shs)) (some_sign is_minus (map sign shs)) refl refl x refl
  where
    by : (p m : Bool) → some_sign is_plus (map sign shs) ≡ p → some_sign is_minus (map sign shs) ≡ m → (y : ℤ) → x ≡ y → HasKind (kind_of_sum p m) y
    by true true ep em y e = tt
    by false false ep em (pos zero) e = refl
    by false false ep em (pos (suc n)) e = absurd (false≢true (sym ep ∙ has_plus shs (g.up (omega (arith, ints, e)))))
    by false false ep em (negsuc n) e = absurd (false≢true (sym em ∙ has_minus shs (g.down (omega (arith, ints, e)))))
    by true false ep em (pos (suc n)) e = omega (arith, ints)
    by true false ep em (negsuc n) e = absurd (false≢true (sym em ∙ has_minus shs (g.down (omega (arith, ints, e)))))
    by true false ep em (pos zero) e = elim (g.still e) as (λ _. HasKind Pos (pos zero)) [
      | inl all ↦ absurd (false≢true (sym (nought_none shs all).0 ∙ ep))
      | inr both ↦ absurd (false≢true (sym em ∙ has_minus shs both.1))
    ]
    by false true ep em (negsuc n) e = omega (arith, ints)
    by false true ep em (pos (suc n)) e = absurd (false≢true (sym ep ∙ has_plus shs (g.up (omega (arith, ints, e)))))
    by false true ep em (pos zero) e = elim (g.still e) as (λ _. HasKind Neg (pos zero)) [
      | inl all ↦ absurd (false≢true (sym (nought_none shs all).1 ∙ em))
      | inr both ↦ absurd (false≢true (sym ep ∙ has_plus shs both.0))
    ]

-- and a number of that kind goes with the shares
kind_goes : (shs : List ℤ) (x : ℤ) → HasKind (kind_of_sum (some_sign is_plus (map sign shs)) (some_sign is_minus (map sign shs))) x → GoesWith shs x
kind_goes shs x h = by (some_sign is_plus (map sign shs)) (some_sign is_minus (map sign shs)) refl refl h
  where
    by : (p m : Bool) → some_sign is_plus (map sign shs) ≡ p → some_sign is_minus (map sign shs) ≡ m → HasKind (kind_of_sum p m) x → GoesWith shs x
    by true true ep em k = record { up = λ _. plus_has shs ep; down = λ _. minus_has shs em; still = λ _. inr (plus_has shs ep, minus_has shs em) }
    by false false ep em k = record { up = λ u. absurd (omega (arith, ints, u, k)); down = λ d. absurd (omega (arith, ints, d, k)); still = λ _. inl (none_is shs ep em) }
    by true false ep em k = record { up = λ _. plus_has shs ep; down = λ d. absurd (omega (arith, ints, d, k)); still = λ z. absurd (omega (arith, ints, z, k)) }
    by false true ep em k = record { up = λ u. absurd (omega (arith, ints, u, k)); down = λ _. minus_has shs em; still = λ z. absurd (omega (arith, ints, z, k)) }

pub columns_have : (table : List (List Sign)) (alpha xs : List ℤ) → AllByRecursion (λ ss. length ss ≡ length xs) table → AllZip (λ ss x. GoesWith (shares ss xs) x) table alpha → AllZip HasKind (map (λ ss. column_kind ss (map sign xs)) table) alpha
columns_have [] [] xs l h = tt
columns_have [] (x ∷ alpha) xs l h = absurd h
columns_have (ss ∷ table) [] xs l h = absurd h
columns_have (ss ∷ table) (x ∷ alpha) xs l h = (subst (λ (κ : Kind). HasKind κ x) (sym (column_full ss xs l.0)) (goes_kind (shares ss xs) x h.0), columns_have table alpha xs l.1 h.1)

pub columns_go : (table : List (List Sign)) (alpha xs : List ℤ) → AllByRecursion (λ ss. length ss ≡ length xs) table → AllZip HasKind (map (λ ss. column_kind ss (map sign xs)) table) alpha → AllZip (λ ss x. GoesWith (shares ss xs) x) table alpha
columns_go [] [] xs l h = tt
columns_go [] (x ∷ alpha) xs l h = absurd h
columns_go (ss ∷ table) [] xs l h = absurd h
columns_go (ss ∷ table) (x ∷ alpha) xs l h = (kind_goes (shares ss xs) x (subst (λ (κ : Kind). HasKind κ x) (column_full ss xs l.0) h.0), columns_go table alpha xs l.1 h.1)

-- ---- the rows

pub sign_has : (x : ℤ) → HasKind (kind_of_sign (sign x)) x
sign_has (pos zero) = refl
sign_has (pos (suc n)) = omega (arith, ints)
sign_has (negsuc n) = omega (arith, ints)

pub rows_have : (n : ℕ) (xs : List ℤ) → length xs ≡ n → AllZip HasKind (row_kinds n (map sign xs)) xs
rows_have zero [] e = tt
rows_have zero (x ∷ xs) e = absurd (omega (arith, e))
rows_have (suc n) [] e = absurd (omega (arith, e))
rows_have (suc n) (x ∷ xs) e = (sign_has x, rows_have n xs (omega (arith, e)))

sign_is : (s : Sign) (x : ℤ) → HasKind (kind_of_sign s) x → s ≡ sign x
sign_is Zero (pos zero) h = refl
sign_is Zero (pos (suc n)) h = absurd (omega (arith, ints, h))
sign_is Zero (negsuc n) h = absurd (omega (arith, ints, h))
sign_is Plus (pos zero) h = absurd (omega (arith, ints, h))
sign_is Plus (pos (suc n)) h = refl
sign_is Plus (negsuc n) h = absurd (omega (arith, ints, h))
sign_is Minus (pos n) h = absurd (omega (arith, ints, h))
sign_is Minus (negsuc n) h = refl

-- the options of a full prefix are the signs of the changes
pub rows_are : (n : ℕ) (p : List Sign) (xs : List ℤ) → length p ≡ n → AllZip HasKind (row_kinds n p) xs → p ≡ map sign xs
rows_are zero [] [] e h = refl
rows_are zero [] (x ∷ xs) e h = absurd h
rows_are zero (s ∷ p) xs e h = absurd (omega (arith, e))
rows_are (suc n) [] xs e h = absurd (omega (arith, e))
rows_are (suc n) (s ∷ p) [] e h = absurd h
rows_are (suc n) (s ∷ p) (x ∷ xs) e h = ap₂ (λ (t : Sign) (ts : List Sign). t ∷ ts) (sign_is s x h.0) (rows_are n p xs (omega (arith, e)) h.1)

noughts_have : (n : ℕ) (xs : List ℤ) → length xs ≡ n → AllByRecursion IsNought xs → AllZip HasKind (replicate n ZeroKind) xs
noughts_have zero [] e h = tt
noughts_have zero (x ∷ xs) e h = absurd (omega (arith, e))
noughts_have (suc n) [] e h = absurd (omega (arith, e))
noughts_have (suc n) (x ∷ xs) e h = (h.0, noughts_have n xs (omega (arith, e)) h.1)

noughts_are : (n : ℕ) (xs : List ℤ) → AllZip HasKind (replicate n ZeroKind) xs → AllByRecursion IsNought xs
noughts_are zero [] h = tt
noughts_are zero (x ∷ xs) h = absurd h
noughts_are (suc n) [] h = absurd h
noughts_are (suc n) (x ∷ xs) h = (h.0, noughts_are n xs h.1)

pub frees_have : (n : ℕ) (xs : List ℤ) → length xs ≡ n → AllZip HasKind (replicate n Free) xs
frees_have zero [] e = tt
frees_have zero (x ∷ xs) e = absurd (omega (arith, e))
frees_have (suc n) [] e = absurd (omega (arith, e))
frees_have (suc n) (x ∷ xs) e = (tt, frees_have n xs (omega (arith, e)))

-- ---- vectors (x, Ax)

pub entry-image : (rows : List (List ℤ)) (x : List ℤ) (i : ℕ) → i < length rows → entry (map (λ row. dot row x) rows) i ≡ dot (get_or rows i []) x
entry-image [] x i lt = absurd (omega (arith, lt))
entry-image (r ∷ rows) x zero lt = refl
entry-image (r ∷ rows) x (suc i) lt = entry-image rows x i (omega (arith, lt))

pub entry-after : (xs ys : List ℤ) (n i : ℕ) → length xs ≡ n → entry (xs ++ ys) (n + i) ≡ entry ys i
entry-after [] ys zero i e = ap (entry ys) (omega arith)
entry-after [] ys (suc n) i e = absurd (omega (arith, e))
entry-after (x ∷ xs) ys zero i e = absurd (omega (arith, e))
entry-after (x ∷ xs) ys (suc n) i e = let k : suc n + i ≡ suc (n + i) = omega arith in rw k (entry-after xs ys n i (omega (arith, e)))

pub vector_is : (m : Mat) (x : List ℤ) → length x ≡ m.cols → InRowSpace m (x ++ image m x)
vector_is m x e =
    let prefix : take m.cols (x ++ image m x) ≡ x = ap (λ (n : ℕ). take n (x ++ image m x)) (sym e) ∙ take-append_seam x (image m x) in
    record {
      long = length-append x (image m x) ∙ ap₂ (λ (i j : ℕ). i + j) e (length-image m x);
      is = λ i lt. entry-after x (image m x) m.cols i e ∙ entry-image m.rows x i lt ∙ ap (dot (get_or m.rows i [])) (sym prefix);
    }

pub solution_of : (m : Mat) (ks qs : List Kind) (x : List ℤ) → length x ≡ m.cols → AllZip HasKind ks x → AllZip HasKind qs (image m x) → IsSolution m (ks ++ qs) x
solution_of m ks qs x e h k = (
  x ++ image m x,
  record {
    space = vector_is m x e;
    columns = ap (λ (n : ℕ). take n (x ++ image m x)) (sym e) ∙ take-append_seam x (image m x);
    each = zip_append HasKind ks x qs (image m x) h k;
  },
)

-- the parts of a vector (x, Ax)
pub record TwoParts (m : Mat) (ks qs : List Kind) (x : List ℤ) : Type 0 where
  pub long : length x ≡ m.cols
  pub columns : AllZip HasKind ks x
  pub rows : AllZip HasKind qs (image m x)

image_is : (m : Mat) (v : List ℤ) → InRowSpace m v → drop m.cols v ≡ image m (take m.cols v)
image_is m v s =
    let long : length (drop m.cols v) ≡ length m.rows = omega (arith, length-drop m.cols v, s.long) in
    ext_get_or (pos 0) (drop m.cols v) (image m (take m.cols v)) (long ∙ sym (length-image m (take m.cols v)))
    (λ i lt. get_or-drop m.cols v i (pos 0) ∙ s.is i (omega (arith, lt, long)) ∙ sym (entry-image m.rows (take m.cols v) i (omega (arith, lt, long))))

pub parts_of : (m : Mat) (ks qs : List Kind) (x : List ℤ) → length ks ≡ m.cols → IsSolution m (ks ++ qs) x → TwoParts m ks qs x
parts_of m ks qs x e s =
    let v = s.0 in
    let prefix : take (length ks) v ≡ x = ap (λ (n : ℕ). take n v) e ∙ s.1.columns in
    let k : AllZip HasKind ks x = subst (λ (l : List ℤ). AllZip HasKind ks l) prefix (zip_prefix HasKind ks qs v s.1.each) in
    let back : drop (length ks) v ≡ image m x = ap (λ (n : ℕ). drop n v) e ∙ image_is m v s.1.space ∙ ap (image m) s.1.columns in
    record {
      long = zip_long HasKind ks x k ∙ e;
      columns = k;
      rows = subst (λ (l : List ℤ). AllZip HasKind qs l) back (zip_back HasKind ks qs v s.1.each);
    }

-- ---- both directions

pub zeros_signs : (xs : List ℤ) → all_zero (map sign xs) ≡ true → AllByRecursion IsNought xs
zeros_signs [] e = tt
zeros_signs (pos zero ∷ xs) e = (refl, zeros_signs xs e)
zeros_signs (pos (suc n) ∷ xs) e = absurd (false≢true e)
zeros_signs (negsuc n ∷ xs) e = absurd (false≢true e)

pub some_or_zeros : (xs : List ℤ) → (all_zero (map sign xs) ≡ true) ⊎ (HasPositive xs ⊎ HasNegative xs)
some_or_zeros [] = inl refl
some_or_zeros (pos zero ∷ xs) = elim (some_or_zeros xs) [ inl e ↦ inl e | inr (inl h) ↦ inr (inl (inr h)) | inr (inr h) ↦ inr (inr (inr h)) ]
some_or_zeros (pos (suc n) ∷ xs) = inr (inl (inl (omega (arith, ints))))
some_or_zeros (negsuc n ∷ xs) = inr (inr (inl (omega (arith, ints))))

pub some_not_zero : (xs : List ℤ) → HasPositive xs ⊎ HasNegative xs → all_zero (map sign xs) ≡ false
some_not_zero [] (inl h) = absurd h
some_not_zero [] (inr h) = absurd h
some_not_zero (pos zero ∷ xs) (inl (inl h)) = absurd (omega (arith, ints, h))
some_not_zero (pos zero ∷ xs) (inl (inr h)) = some_not_zero xs (inl h)
some_not_zero (pos zero ∷ xs) (inr (inl h)) = absurd (omega (arith, ints, h))
some_not_zero (pos zero ∷ xs) (inr (inr h)) = some_not_zero xs (inr h)
some_not_zero (pos (suc n) ∷ xs) h = refl
some_not_zero (negsuc n ∷ xs) h = refl

pub and_false : (a b : Bool) → b ≡ false → (a && b) ≡ false
and_false true b e = e
and_false false b e = refl

rows_of_table : (table : List (List Sign)) (n : ℕ) (xs : List ℤ) → length xs ≡ n → AllByRecursion (λ ss. length ss ≡ n) table → AllByRecursion (λ ss. length ss ≡ length xs) table
rows_of_table [] n xs e h = tt
rows_of_table (ss ∷ table) n xs e h = (h.0 ∙ sym e, rows_of_table table n xs e h.1)

pub feasible_by : (m : Mat) (table : List (List Sign)) → IsTable m table → (alpha weights : List ℤ) → IsDiscordant m table alpha weights → (p : List Sign) × IsFull (concordance m table) p × IsFeasible (concordance m table) p
feasible_by m table t alpha weights d =
    let sigma = image m weights in
    let long : length sigma ≡ length m.rows = length-image m weights in (
      map sign sigma,
      length-map sigma sign ∙ long,
      record {
        opened = and_false (eqb (length (map sign sigma)) (length m.rows)) (all_zero (map sign sigma)) (some_not_zero sigma d.some);
        part_a = (
          alpha,
          solution_of m (map (λ ss. column_kind ss (map sign sigma)) table) (replicate (length m.rows) ZeroKind) alpha d.long_alpha
              (columns_have table alpha sigma (rows_of_table table (length m.rows) sigma long t.species) d.goes)
              (noughts_have (length m.rows) (image m alpha) (length-image m alpha) d.balanced),
        );
        part_b = (weights, solution_of m (replicate m.cols Free) (row_kinds (length m.rows) (map sign sigma)) weights d.long_weights (frees_have m.cols weights d.long_weights) (rows_have (length m.rows) sigma long));
      },
    )

pub discordant_named : (m : Mat) (table : List (List Sign)) → IsTable m table → (p : List Sign) (alpha weights : List ℤ) → IsFull (concordance m table) p → (concordance m table).closed p ≡ false → SolvesA (concordance m table) p alpha → SolvesB (concordance m table) p weights → IsDiscordant m table alpha weights
discordant_named m table t p alpha weights f o sa sb =
    let sigma = image m weights in
    let a = parts_of m (map (λ ss. column_kind ss p) table) (replicate (length m.rows) ZeroKind) alpha (length-columns table p ∙ t.reactions) sa in
    let b = parts_of m (replicate m.cols Free) (row_kinds (length m.rows) p) weights (length-replicate m.cols Free) sb in
    let is : p ≡ map sign sigma = rows_are (length m.rows) p sigma f b.rows in
    let open_is : (eqb (length p) (length m.rows) && all_zero p) ≡ false = o in record {
      long_alpha = a.long;
      long_weights = b.long;
      balanced = noughts_are (length m.rows) (image m alpha) a.rows;
      some = elim (some_or_zeros sigma) as (λ _. HasPositive sigma ⊎ HasNegative sigma) [
        | inr h ↦ h
        | inl z ↦ absurd (false≢true (sym open_is ∙ ap₂ (λ (b c : Bool). b && c) (eq-eqb (length p) (length m.rows) f) (ap all_zero is ∙ z)))
      ];
      goes = columns_go table alpha sigma (rows_of_table table (length m.rows) sigma (length-image m weights) t.species)
          (subst (λ (q : List Sign). AllZip HasKind (map (λ ss. column_kind ss q) table) alpha) is a.columns);
    }

pub discordant_by : (m : Mat) (table : List (List Sign)) → IsTable m table → (p : List Sign) → IsFull (concordance m table) p → IsFeasible (concordance m table) p → (alpha : List ℤ) × (weights : List ℤ) × IsDiscordant m table alpha weights
discordant_by m table t p f s = (s.part_a.0, s.part_b.0, discordant_named m table t p s.part_a.0 s.part_b.0 f s.opened s.part_a.1 s.part_b.1)

pub tables_feasible : (m : Mat) (table : List (List Sign)) → IsTable m table → DiscordantIfFeasible m table
tables_feasible m table t = record { named = discordant_named m table t; feasible = feasible_by m table t; discordant = discordant_by m table t }
