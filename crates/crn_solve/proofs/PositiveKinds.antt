-- Systems whose columns have to be positive and whose rows zero: their solutions and the multipliers that rule them out.
use Rattle.crn_solve.proofs.Prelude.{◌≡◌, ◌≢◌, ℕ, zero, suc, ◌+◌, ◌-◌, ◌<◌, inl, inr, List, [], ◌++◌, length, get_or, take, drop, refl, sym, ap, subst, ◌∙◌, arith, ℤ, pos, negsuc, neg_ℤ, ◌≤ℤ◌, true, false, unsigned_abs, replicate, get_or-append, ints, false≢true, get_or-replicate, length-replicate, get_or-append_right, get_or-take, length-take-le, length-drop, length-append, WIDE_ENTRY, Kind, Pos, Zero, Free, Mat, entry, dot, column, width, HasKind, MayWeigh, is_signed, kind_at, signed_count, IsPositive, positive_kinds, kinds_at, lt_or, all_given, IsNarrow, AreFree, IsSmallCut, IsSmallSolution}

-- ---- kinds

pub kinds_long : (a : Mat) → length (positive_kinds a) ≡ width a
kinds_long a = length-append (replicate a.cols Pos) (replicate (length a.rows) Zero) ∙ omega (arith, length-replicate a.cols Pos, length-replicate (length a.rows) Zero)

column_kind : (a : Mat) (k : ℕ) → k < a.cols → kind_at (positive_kinds a) k ≡ Pos
column_kind a k lt =
    get_or-append (replicate a.cols Pos) (replicate (length a.rows) Zero) Free k (omega (arith, lt, length-replicate a.cols Pos))
    ∙ get_or-replicate a.cols k Pos Free lt

row_kind : (a : Mat) (i : ℕ) → i < length a.rows → kind_at (positive_kinds a) (a.cols + i) ≡ Zero
row_kind a i lt =
    get_or-append_right (replicate a.cols Pos) (replicate (length a.rows) Zero) a.cols (a.cols + i) Free (length-replicate a.cols Pos) (omega arith)
    ∙ ap (λ (k : ℕ). get_or (replicate (length a.rows) Zero) k Free) (omega arith)
    ∙ get_or-replicate (length a.rows) i Zero Free lt

count_after : (rows : ℕ) → signed_count (replicate rows Zero) ≡ 0
count_after zero = refl
count_after (suc rows) = omega (arith, count_after rows)

count_from : (cols rows : ℕ) → signed_count (replicate cols Pos ++ replicate rows Zero) ≡ cols
count_from zero rows = count_after rows
count_from (suc cols) rows = omega (arith, count_from cols rows)

-- as many coordinates have to be positive as there are columns
pub kinds_signed : (a : Mat) → signed_count (positive_kinds a) ≡ a.cols
kinds_signed a = count_from a.cols (length a.rows)

-- a place past the rows has no kind that is signed
past_zeros : (n i : ℕ) → is_signed (get_or (replicate n Zero) i Free) ≡ false
past_zeros zero i = refl
past_zeros (suc n) zero = refl
past_zeros (suc n) (suc i) = past_zeros n i

-- a coordinate that has to be positive is a column
signed_column : (a : Mat) (k : ℕ) → is_signed (kind_at (positive_kinds a) k) ≡ true → k < a.cols
signed_column a k e = elim (lt_or k a.cols) as (λ _. k < a.cols) [
  | inl lt ↦ lt
  | inr past ↦
      let at : kind_at (positive_kinds a) k ≡ get_or (replicate (length a.rows) Zero) (k - a.cols) Free = get_or-append_right (replicate a.cols Pos) (replicate (length a.rows) Zero) a.cols k Free (length-replicate a.cols Pos) past in
      absurd (false≢true (sym (past_zeros (length a.rows) (k - a.cols)) ∙ sym (ap is_signed at) ∙ e))
]

-- ---- solutions

-- positive numbers of a certificate, one for each column, whose product with each row is 0
pub record IsPositiveSolution (a : Mat) (x : List ℤ) : Type 0 where
  pub free : AreFree a.cols x
  pub positive : IsPositive x
  pub rows : (i : ℕ) → i < length a.rows → dot (get_or a.rows i []) x ≡ pos 0

pub positive_solution : (a : Mat) (x : List ℤ) → IsSmallSolution a (positive_kinds a) x → IsPositiveSolution a x
positive_solution a x s =
    let v = s.v in
    let columns : take a.cols v ≡ x = s.solves.columns in
    let has : (k : ℕ) → HasKind (kind_at (positive_kinds a) k) (entry v k) = kinds_at HasKind (positive_kinds a) v tt s.solves.each in
    let long : length x ≡ a.cols = ap length (sym columns) ∙ length-take-le a.cols v (omega (arith, s.solves.space.long)) in
    let at : (k : ℕ) → k < a.cols → entry v k ≡ entry x k = λ k lt. sym (get_or-take a.cols v k (pos 0) lt) ∙ ap (λ (l : List ℤ). entry l k) columns in
    record {
      free = record { long = long; each = all_given IsNarrow x (pos 0) (λ k lt. subst IsNarrow (at k (omega (arith, lt, long))) (s.small k)) };
      positive = all_given (λ y. pos 1 ≤ℤ y) x (pos 0) (λ k lt.
          let l : k < a.cols = omega (arith, lt, long) in
          subst (λ (y : ℤ). pos 1 ≤ℤ y) (at k l) (subst (λ (κ : Kind). HasKind κ (entry v k)) (column_kind a k l) (has k)));
      rows = λ i lt.
          let none : entry v (a.cols + i) ≡ pos 0 = subst (λ (κ : Kind). HasKind κ (entry v (a.cols + i))) (row_kind a i lt) (has (a.cols + i)) in
          ap (dot (get_or a.rows i [])) (sym columns) ∙ sym (s.solves.space.is i lt) ∙ none;
    }

-- ---- multipliers

-- numbers of a certificate, one for each row, whose product with each column is at most 0, and below 0 for one
pub record IsPositiveCut (a : Mat) (u : List ℤ) : Type 0 where
  pub free : AreFree (length a.rows) u
  pub falls : (j : ℕ) → j < a.cols → dot u (column a.rows j) ≤ℤ pos 0
  pub some : ℕ
  pub inside : some < a.cols
  pub below : dot u (column a.rows some) ≤ℤ negsuc 0

narrow : (x : ℤ) → unsigned_abs x < WIDE_ENTRY → IsNarrow x
narrow x h = omega (arith, h)

at_least_one : (z : ℤ) → pos 0 ≤ℤ z → z ≢ pos 0 → pos 1 ≤ℤ z
at_least_one (pos zero) a b = absurd (b refl)
at_least_one (pos (suc n)) a b = omega (arith, ints)
at_least_one (negsuc n) a b = absurd (omega (arith, ints, a))

pub positive_cut : (a : Mat) (u : List ℤ) → IsSmallCut a (positive_kinds a) u → IsPositiveCut a u
positive_cut a u c =
    let w = c.cut.0 in
    let rules = c.cut.1 in
    let rows : drop a.cols w ≡ u = rules.rows in
    let may : (k : ℕ) → MayWeigh (kind_at (positive_kinds a) k) (entry w k) = kinds_at MayWeigh (positive_kinds a) w refl rules.each in
    let long : length u ≡ length a.rows = ap length (sym rows) ∙ omega (arith, length-drop a.cols w, rules.space.long) in
    let above : (j : ℕ) → j < a.cols → pos 0 ≤ℤ entry w j = λ j lt. subst (λ (κ : Kind). MayWeigh κ (entry w j)) (column_kind a j lt) (may j) in
    let is : (j : ℕ) → j < a.cols → entry w j ≡ neg_ℤ (dot u (column a.rows j)) = λ j lt. rules.space.is j lt ∙ ap (λ (l : List ℤ). neg_ℤ (dot l (column a.rows j))) rows in
    let k = rules.some.0 in
    let inside = signed_column a k rules.some.1 in
    let one = at_least_one (entry w k) (above k inside) rules.some.2 in
    record {
      free = record { long = long; each = all_given IsNarrow u (pos 0) (λ i lt. narrow (entry u i) (c.small i)) };
      falls = λ j lt. omega (arith, ints, above j lt, is j lt);
      some = k;
      inside = inside;
      below = omega (arith, ints, one, is k inside);
    }
