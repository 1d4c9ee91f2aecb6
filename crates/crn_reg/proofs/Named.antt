-- The vectors that a basis names by the columns, after the rows have entered it: solutions and ties.
use Rattle.crn_reg.proofs.Prelude.{◌≡◌, ◌≢◌, ℕ, ◌+◌, ◌-◌, ◌<◌, ◌≤◌, ◌⊎◌, ◌++◌, inl, inr, Bool, not, ◌==◌, ne_eqb, List, [], ◌∷◌, length, get_or, take, drop, sym, ap, ap₂, subst, ◌∙◌, arith, ℤ, pos, neg_ℤ, ◌*ℤ◌, unsigned_abs, ◌∣◌, AllZip, filter, range_with_len, ints, eq-eqb, get_or-take, get_or-drop, length-take-le, length-drop, length-append, get_or_append_left, get_or-append-add, take-append_seam, WIDE_ENTRY, Mat, entry, dot, column, IsIn, IsZero, width, InRowSpace, IsNamed, IsNamedColumn, AreProportional, eq_or, lt_or, past_end, in_at, at_in, no_zero, orthogonal, zeros, length-zeros, entry-zeros, zip_push, ratios_cross, range_more, filter_yes, filter_no, dot_single, as_column, column_some, own_some, AreSmall, NamesRows, AreEntered, isIn_or, one_column, as_row, IsSolution, IsTieOf, numbers_but, HasNoColumn, IsFirstColumn, HasNoOther, IsColumnPart}
use lib.IntN.{*ℤ_comm, *ℤ-zero, zero-*ℤ}

-- ---- entries that are not zero

-- ---- a column

-- the vector of a column is zero at every row
row_zero : (a : Mat) (basis : List ℕ) (c i : ℕ) (v : List ℤ) → NamesRows a basis → AreEntered a basis a.cols → c < a.cols → IsNamedColumn a basis c v → i < length a.rows → entry v (a.cols + i) ≡ pos 0
row_zero a basis c i v t entered lt col il =
    let n = a.cols in
    let e = n + i in
    let inside : e < width a = omega (arith, il) in
    elim (isIn_or e basis) as (λ _. entry v e ≡ pos 0) [
      | inl m ↦ col.zero_on_rest e m (λ f. omega (arith, f, lt))
      | inr out ↦
          let r = t.rows e inside out in
          let w = r.w in
          let row = as_row a basis e w out r.named in
          let none = entered e (let le : n ≤ e = omega arith in le) inside out w row in
          let left : (k : ℕ) → entry w k ≡ pos 0 → entry w k *ℤ entry v k ≡ pos 0 = λ k z. ap (λ (x : ℤ). x *ℤ entry v k) z ∙ zero-*ℤ (entry v k) in
          let right : (k : ℕ) → entry v k ≡ pos 0 → entry w k *ℤ entry v k ≡ pos 0 = λ k z. ap (λ (x : ℤ). entry w k *ℤ x) z ∙ *ℤ-zero (entry w k) in
          let single : dot w v ≡ entry w e *ℤ entry v e = dot_single w v e (λ k ne. elim (lt_or k n) as (λ _. entry w k *ℤ entry v k ≡ pos 0) [
            | inl l ↦ left k (none k l)
            | inr ge ↦ elim (isIn_or k basis) as (λ _. entry w k *ℤ entry v k ≡ pos 0) [
              | inl m ↦ right k (col.zero_on_rest k m (λ f. omega (arith, f, lt, ge)))
              | inr o ↦ left k (row.zero_outside k o ne)
            ]
          ]) in
          no_zero (entry w e) (entry v e) (sym single ∙ orthogonal a w v row.space col.space) (λ z. omega (arith, ints, z, r.positive))
    ]

part_is : (a : Mat) (basis : List ℕ) (c : ℕ) (v : List ℤ) → NamesRows a basis → AreEntered a basis a.cols → c < a.cols → IsIn c basis → IsNamed a basis c v → AreSmall v → IsColumnPart a basis c (take a.cols v)
part_is a basis c v t entered lt i named small =
    let n = a.cols in
    let x = take n v in
    let col = as_column a basis c v i named in
    let long : length x ≡ n = length-take-le n v (omega (arith, col.space.long)) in
    let rest : (k : ℕ) → n ≤ k → entry v k ≡ pos 0 = λ k ge. elim (lt_or k (width a)) as (λ _. entry v k ≡ pos 0) [
      | inl l ↦ subst (λ (j : ℕ). entry v j ≡ pos 0) (let f : n + (k - n) ≡ k = omega (arith, ge) in f) (row_zero a basis c (k - n) v t entered lt col (omega (arith, l, ge)))
      | inr past ↦ past_end v k (omega (arith, past, col.space.long))
    ] in
    let same : (k : ℕ) → entry x k ≡ entry v k = λ k. elim (lt_or k n) as (λ _. entry x k ≡ entry v k) [
      | inl l ↦ get_or-take n v k (pos 0) l
      | inr ge ↦ past_end x k (omega (arith, long, ge)) ∙ sym (rest k ge)
    ] in
    let zero_at : (r : List ℤ) → IsIn r a.rows → dot r x ≡ pos 0 = λ r m.
    let p = in_at r a.rows [] m in
    ap (λ (q : List ℤ). dot q x) (sym p.2) ∙ sym (col.space.is p.0 p.1) ∙ row_zero a basis c p.0 v t entered lt col p.1 in
    record {
      kept = record {
        solution = record { long = long; zero = zero_at };
        primitive = λ d h. named.primitive d (λ k. (let D : ℤ → Type 0 = λ z. d ∣ unsigned_abs z in subst D (same k) (h k)));
        small = λ k. (let S : ℤ → Type 0 = λ z. unsigned_abs z < WIDE_ENTRY in subst S (sym (same k)) (small k));
      };
      own = λ z. column_some a basis c v i named (sym (same c) ∙ z);
      v = v;
      named = col;
      same = same;
    }

pub part_of : (a : Mat) (basis : List ℕ) (c : ℕ) (v x : List ℤ) → NamesRows a basis → AreEntered a basis a.cols → c < a.cols → IsIn c basis → IsNamed a basis c v → AreSmall v → x ≡ take a.cols v → IsColumnPart a basis c x
part_of a basis c v x t entered lt i named small e = subst (IsColumnPart a basis c) (sym e) (part_is a basis c v t entered lt i named small)

-- ---- a tie

pub tie_by : (a : Mat) (basis : List ℕ) (spared c : ℕ) (w tie : List ℤ) → NamesRows a basis → HasNoOther basis a.cols spared → c < a.cols → c ≢ spared → IsNamed a basis c w → AreSmall w → tie ≡ drop a.cols w → IsTieOf a spared c tie
tie_by a basis spared c w tie t none lt ne named small e =
    let n = a.cols in
    let u = drop n w in
    let out = none c lt ne in
    let row = as_row a basis c w out named in
    let inside : c < width a = omega (arith, lt) in
    subst (IsTieOf a spared c) (sym e) (record {
      long = let l : length u ≡ length a.rows = omega (arith, length-drop n w, row.space.long) in l;
      small = λ k. (let S : ℤ → Type 0 = λ z. unsigned_abs z < WIDE_ENTRY in subst S (sym (get_or-drop n w k (pos 0))) (small (n + k)));
      own = λ z. own_some a basis c w t inside out named (row.space.is c lt ∙ ap neg_ℤ z);
      others = λ d dl dne. elim (eq_or d spared) as (λ _. (d ≡ spared) ⊎ (dot u (column a.rows d) ≡ pos 0)) [
        | inl f ↦ inl f
        | inr f ↦ inr (let z = row.zero_outside d (none d dl f) dne in let m = row.space.is d dl in omega (arith, ints, z, m))
      ];
    })

-- ---- the columns in the basis

pub no_other : (basis : List ℕ) (end c : ℕ) → IsFirstColumn basis 0 end c → HasNoColumn basis (c + 1) end → HasNoOther basis end c
no_other basis end c first none d lt ne i = elim (lt_or d c) as (λ _. ⊥) [
  | inl less ↦ first.first d (omega arith) less i
  | inr ge ↦ none d (omega (arith, ge, ne)) lt i
]

-- ---- ties one after another

abbrev is_other : ℕ → ℕ → Bool
is_other spared d = not (d == spared)

pub but_yes : (spared k : ℕ) → k ≢ spared → numbers_but spared (k + 1) ≡ numbers_but spared k ++ k ∷ []
but_yes spared k ne =
    ap (filter (is_other spared)) (range_more 0 k k (omega arith)) ∙ filter_yes (is_other spared) (range_with_len 0 k) k (ap not (ne_eqb k spared ne))

pub but_no : (spared k : ℕ) → k ≡ spared → numbers_but spared (k + 1) ≡ numbers_but spared k
but_no spared k e =
    ap (filter (is_other spared)) (range_more 0 k k (omega arith)) ∙ filter_no (is_other spared) (range_with_len 0 k) k (ap not (eq-eqb k spared e))

pub ties_more : (a : Mat) (spared k : ℕ) (ties : List (List ℤ)) (tie : List ℤ) → k ≢ spared → AllZip (IsTieOf a spared) (numbers_but spared k) ties → IsTieOf a spared k tie → AllZip (IsTieOf a spared) (numbers_but spared (k + 1)) (ties ++ tie ∷ [])
ties_more a spared k ties tie ne h t =
    subst (λ (ks : List ℕ). AllZip (IsTieOf a spared) ks (ties ++ tie ∷ [])) (sym (but_yes spared k ne)) (zip_push (IsTieOf a spared) (numbers_but spared k) ties k tie h t)

pub ties_same : (a : Mat) (spared k : ℕ) (ties : List (List ℤ)) → k ≡ spared → AllZip (IsTieOf a spared) (numbers_but spared k) ties → AllZip (IsTieOf a spared) (numbers_but spared (k + 1)) ties
ties_same a spared k ties e h = subst (λ (ks : List ℕ). AllZip (IsTieOf a spared) ks ties) (sym (but_no spared k e)) h

-- ---- solutions by a basis

-- a solution, and a zero for each row
abbrev padded : Mat → List ℤ → List ℤ
padded a g = g ++ zeros (length a.rows)

padded_inside : (a : Mat) (g : List ℤ) (k : ℕ) → IsSolution a g → k < a.cols → entry (padded a g) k ≡ entry g k
padded_inside a g k s lt = get_or_append_left g (zeros (length a.rows)) (pos 0) k (omega (arith, lt, s.long))

padded_past : (a : Mat) (g : List ℤ) (k : ℕ) → IsSolution a g → a.cols ≤ k → entry (padded a g) k ≡ pos 0
padded_past a g k s ge =
    let i = k - a.cols in
    let back : length g + i ≡ k = omega (arith, s.long, ge) in
    ap (entry (padded a g)) (sym back) ∙ get_or-append-add g (zeros (length a.rows)) i (pos 0) ∙ entry-zeros (length a.rows) i

padded_same : (a : Mat) (g : List ℤ) (k : ℕ) → IsSolution a g → entry (padded a g) k ≡ entry g k
padded_same a g k s = elim (lt_or k a.cols) as (λ _. entry (padded a g) k ≡ entry g k) [
  | inl lt ↦ padded_inside a g k s lt
  | inr ge ↦ padded_past a g k s ge ∙ sym (past_end g k (omega (arith, ge, s.long)))
]

padded_in : (a : Mat) (g : List ℤ) → IsSolution a g → InRowSpace a (padded a g)
padded_in a g s =
    let prefix : take a.cols (padded a g) ≡ g = ap (λ (n : ℕ). take n (padded a g)) (sym s.long) ∙ take-append_seam g (zeros (length a.rows)) in
    record {
      long = let l : length (padded a g) ≡ width a = omega (arith, length-append g (zeros (length a.rows)), length-zeros (length a.rows), s.long) in l;
      is = λ i lt.
          let row = get_or a.rows i [] in
          padded_past a g (a.cols + i) s (omega arith) ∙ sym (ap (dot row) prefix ∙ s.zero row (at_in a.rows i [] lt));
    }

-- if no column is in the basis, only zero is a solution
pub none_by : (a : Mat) (basis : List ℕ) (g : List ℤ) → NamesRows a basis → ((c : ℕ) → c < a.cols → IsIn c basis → ⊥) → IsSolution a g → IsZero g
none_by a basis g t none s k =
    sym (padded_same a g k s) ∙ t.basis_is.free (padded a g) (padded_in a g s) (λ j m. elim (lt_or j a.cols) as (λ _. entry (padded a g) j ≡ pos 0) [
      | inl lt ↦ absurd (none j lt m)
      | inr ge ↦ padded_past a g j s ge
    ]) k

-- if one column is in the basis, every solution is named by it
named_by : (a : Mat) (basis : List ℕ) (c : ℕ) (g : List ℤ) → IsIn c basis → HasNoOther basis a.cols c → IsSolution a g → IsNamedColumn a basis c (padded a g)
named_by a basis c g i none s =
    record {
      member = i;
      space = padded_in a g s;
      zero_on_rest = λ k m ne. elim (lt_or k a.cols) as (λ _. entry (padded a g) k ≡ pos 0) [
        | inl lt ↦ absurd (none k lt ne m)
        | inr ge ↦ padded_past a g k s ge
      ];
    }

-- and any two are proportional: each is so to the vector of the column
pub one_by : (a : Mat) (basis : List ℕ) (c : ℕ) (x g h : List ℤ) → NamesRows a basis → IsIn c basis → HasNoOther basis a.cols c → entry x c ≢ pos 0 → IsSolution a x → IsSolution a g → IsSolution a h → AreProportional g h
one_by a basis c x g h t i none some sx sg sh j k =
    let named : (y : List ℤ) → IsSolution a y → IsNamedColumn a basis c (padded a y) = λ y s. named_by a basis c y i none s in
    let at : (y : List ℤ) (m : ℕ) → IsSolution a y → entry y m *ℤ entry x c ≡ entry x m *ℤ entry y c = λ y m s.
    let e = one_column a basis c (padded a y) (padded a x) t.basis_is (named y s) (named x sx) m in
    let f : entry x c *ℤ entry y m ≡ entry y c *ℤ entry x m = ap₂ (λ (p q : ℤ). p *ℤ q) (sym (padded_same a x c sx)) (sym (padded_same a y m s)) ∙ e ∙ ap₂ (λ (p q : ℤ). p *ℤ q) (padded_same a y c s) (padded_same a x m sx) in
    *ℤ_comm (entry y m) (entry x c) ∙ f ∙ *ℤ_comm (entry y c) (entry x m) in
    ratios_cross (entry x c) (entry x j) (entry x k) (entry g j) (entry g k) (entry g c) (entry h j) (entry h k) (entry h c) some (at g j sg) (at g k sg) (at h j sh) (at h k sh)
