-- The vector that a basis names by a coordinate in it, from the rows of a tableau.
use Rattle.crn_tab.proofs.Prelude.{◌≡◌, ◌≢◌, ℕ, zero, suc, ◌+◌, ◌-◌, ◌*◌, ◌/◌, ◌<◌, ◌≤◌, inl, inr, List, [], ◌∷◌, length, refl, sym, ap, subst, ◌∙◌, arith, nat_eq, ℤ, pos, ◌+ℤ◌, ◌-ℤ◌, ◌*ℤ◌, neg_ℤ, ◌≤ℤ◌, int_div, slice_index, unsigned_abs, ◌∣◌, ints, unsigned_abs-mul, dvd_antisymm, le_of_dvd, dvd-mul_right, div-mul_cancel, mul-dvd-mul_right, dvd_of_mul-dvd-mul_right, mul_comm, mul_assoc, pos_of_dvd_of_pos, eq_of_mul-eq-mul_left, exact, Mat, entry, IsIn, width, InRowSpace, IsPrimitive, IsNamed, WideAt, left-comm, mul-neg, past_end, lt_or, eq_or, orthogonal, dot_two, choose, spread, basis_of, row_at, IsTableau, MakesWhole, IsScale, HasWideScale, column_entry, column_of}
use lib.IntN.{*ℤ_comm, *ℤ-zero, zero-*ℤ}
use Rattle.crn_tab.proofs.Places.{isIn_or, lt_true, lt_false, eq_true, eq_false, slot_basic, entry-spread}
use Rattle.crn_tab.proofs.BasicTest.{slot_below}
use Rattle.crn_tab.proofs.Bases.{rows_make_basis, zero_outside, outside_slot, at_own}
use Rattle.crn_tab.proofs.Unique.{column_at}
use Rattle.crn_tab.proofs.Columns.{cancel_left, row_combined}
use Rattle.crn_tab.proofs.Scales.{scale_of, scale_grows}

-- the three kinds of slots
pub entry_own : (n c : ℕ) (rows : List ℤ) (l s : ℕ) → c < n → s ≡ c → column_entry n c rows l s ≡ pos l
entry_own n c rows l s lt e =
    ap (λ b. choose b (choose (nat_eq s c) (pos l) (pos 0)) (int_div (neg_ℤ (entry (row_at (n + 1) rows (s - n)) c *ℤ pos l)) (entry (row_at (n + 1) rows (s - n)) n))) (lt_true s n (omega arith))
    ∙ ap (λ b. choose b (pos l) (pos 0)) (eq_true s c e)

pub entry_rest : (n c : ℕ) (rows : List ℤ) (l s : ℕ) → s < n → s ≢ c → column_entry n c rows l s ≡ pos 0
entry_rest n c rows l s lt ne =
    ap (λ b. choose b (choose (nat_eq s c) (pos l) (pos 0)) (int_div (neg_ℤ (entry (row_at (n + 1) rows (s - n)) c *ℤ pos l)) (entry (row_at (n + 1) rows (s - n)) n))) (lt_true s n lt)
    ∙ ap (λ b. choose b (pos l) (pos 0)) (eq_false s c ne)

pub entry_row : (n c : ℕ) (rows : List ℤ) (l s : ℕ) → n ≤ s
    → column_entry n c rows l s ≡ int_div (neg_ℤ (entry (row_at (n + 1) rows (s - n)) c *ℤ pos l)) (entry (row_at (n + 1) rows (s - n)) n)
entry_row n c rows l s le =
    ap (λ b. choose b (choose (nat_eq s c) (pos l) (pos 0)) (int_div (neg_ℤ (entry (row_at (n + 1) rows (s - n)) c *ℤ pos l)) (entry (row_at (n + 1) rows (s - n)) n))) (lt_false s n le)

abs_times : (x : ℤ) (l : ℕ) → unsigned_abs (neg_ℤ (x *ℤ pos l)) ≡ unsigned_abs x * l
abs_times x l = (let e : unsigned_abs (neg_ℤ (x *ℤ pos l)) ≡ unsigned_abs (x *ℤ pos l) = omega (arith, ints) in e) ∙ unsigned_abs-mul x (pos l)

-- the entry at the slot of row i, times the row's own entry
pub entry_times : (n c : ℕ) (rows : List ℤ) (m l i : ℕ) → MakesWhole n c rows m l → i < m
    → column_entry n c rows l (n + i) *ℤ entry (row_at (n + 1) rows i) n ≡ neg_ℤ (entry (row_at (n + 1) rows i) c *ℤ pos l)
entry_times n c rows m l i h lt =
    let at : n + i - n ≡ i = omega arith in
    let x = entry (row_at (n + 1) rows i) c in
    let d = entry (row_at (n + 1) rows i) n in
    let is : column_entry n c rows l (n + i) ≡ int_div (neg_ℤ (x *ℤ pos l)) d =
    entry_row n c rows l (n + i) (omega arith) ∙ ap (λ j. int_div (neg_ℤ (entry (row_at (n + 1) rows j) c *ℤ pos l)) (entry (row_at (n + 1) rows j) n)) at in
    let D : ℕ → Type 0 = λ k. unsigned_abs d ∣ k in
    ap (λ (t : ℤ). t *ℤ d) is ∙ exact (neg_ℤ (x *ℤ pos l)) d (subst D (sym (abs_times x l)) (h i lt))

-- what has this product is the entry
pub entry_by : (n c : ℕ) (rows : List ℤ) (m l i : ℕ) (x : ℤ) → MakesWhole n c rows m l → i < m → pos 1 ≤ℤ entry (row_at (n + 1) rows i) n
    → x *ℤ entry (row_at (n + 1) rows i) n ≡ neg_ℤ (entry (row_at (n + 1) rows i) c *ℤ pos l) → x ≡ column_entry n c rows l (n + i)
entry_by n c rows m l i x h lt some e =
    let d = entry (row_at (n + 1) rows i) n in
    let y = column_entry n c rows l (n + i) in
    cancel_left d x y (λ z. omega (arith, ints, z, some)) (*ℤ_comm d x ∙ e ∙ sym (entry_times n c rows m l i h lt) ∙ *ℤ_comm y d)

pub length-column : (n c : ℕ) (rows : List ℤ) (l : ℕ) (at : List ℕ) → length (column_of n c rows l at) ≡ length at
length-column n c rows l [] = refl
length-column n c rows l (s ∷ at) = omega (arith, length-column n c rows l at)

pub entry-column : (n c : ℕ) (rows : List ℤ) (l : ℕ) (at : List ℕ) (k : ℕ) → k < length at → entry (column_of n c rows l at) k ≡ column_entry n c rows l (slice_index at k)
entry-column n c rows l [] k h = absurd (omega arith)
entry-column n c rows l (s ∷ at) zero h = refl
entry-column n c rows l (s ∷ at) (suc k) h = entry-column n c rows l at k (omega arith)

-- a row and a column of one basis: only their two coordinates meet
pub meets : (a : Mat) (at order : List ℕ) (rows : List ℤ) (col k i : ℕ) (z : List ℤ) → IsTableau a at order rows → IsIn col (basis_of a.cols at) → k < width a → slice_index at k ≡ a.cols + i → i < length a.rows
    → InRowSpace a z → ((j : ℕ) → IsIn j (basis_of a.cols at) → j ≢ col → entry z j ≡ pos 0)
    → entry (row_at (a.cols + 1) rows i) (slice_index at col) *ℤ entry z col +ℤ entry (row_at (a.cols + 1) rows i) a.cols *ℤ entry z k ≡ pos 0
meets a at order rows col k i z t member k_lt own i_lt space rest =
    let n = a.cols in
    let row = row_at (n + 1) rows i in
    let w = spread n i row at in
    let c_lt : slice_index at col < n = slot_below n at col member in
    let basis = rows_make_basis a at order t.wide t.placed (λ j lt. (row_at (n + 1) rows j, t.each j lt)) in
    let col_lt : col < width a = basis.below col member in
    let ne : col ≢ k = λ e. omega (arith, c_lt, own, ap (slice_index at) e) in
    let others : (j : ℕ) → j ≢ col → j ≢ k → entry w j *ℤ entry z j ≡ pos 0 = λ j nc nk. elim (isIn_or j (basis_of n at)) as (λ _. entry w j *ℤ entry z j ≡ pos 0) [
      | inl m ↦ ap (λ (s : ℤ). entry w j *ℤ s) (rest j m nc) ∙ *ℤ-zero (entry w j)
      | inr far ↦ ap (λ (s : ℤ). s *ℤ entry z j) (zero_outside n (width a) at order i row k t.placed k_lt own j far nk) ∙ zero-*ℤ (entry z j)
    ] in
    let at_col : entry w col ≡ entry row (slice_index at col) = entry-spread n i row at col (omega (arith, t.placed.at_long, col_lt)) ∙ slot_basic n i row (slice_index at col) c_lt in
    let at_k : entry w k ≡ entry row n = at_own n (width a) at order i row k t.placed k_lt own in
    ap (λ (x : ℤ). x *ℤ entry z col +ℤ entry row n *ℤ entry z k) (sym at_col) ∙ ap (λ (x : ℤ). entry w col *ℤ entry z col +ℤ x *ℤ entry z k) (sym at_k)
    ∙ sym (dot_two w z col k ne others) ∙ orthogonal a w z (t.each i i_lt).dual space

-- from a z + d y = 0 and v d = - (a l): v z = l y, if d is not 0
crossed : (a d z y v l : ℤ) → d ≢ pos 0 → a *ℤ z +ℤ d *ℤ y ≡ pos 0 → v *ℤ d ≡ neg_ℤ (a *ℤ l) → v *ℤ z ≡ l *ℤ y
crossed a d z y v l ne e f =
    let first : d *ℤ (v *ℤ z) ≡ z *ℤ (v *ℤ d) = ap (λ (t : ℤ). d *ℤ t) (*ℤ_comm v z) ∙ left-comm d z v ∙ ap (λ (t : ℤ). z *ℤ t) (*ℤ_comm d v) in
    let second : z *ℤ (v *ℤ d) ≡ neg_ℤ (z *ℤ (a *ℤ l)) = ap (λ (t : ℤ). z *ℤ t) f ∙ mul-neg z (a *ℤ l) in
    let third : z *ℤ (a *ℤ l) ≡ l *ℤ (a *ℤ z) = ap (λ (t : ℤ). z *ℤ t) (*ℤ_comm a l) ∙ left-comm z l a ∙ ap (λ (t : ℤ). l *ℤ t) (*ℤ_comm z a) in
    let negated : a *ℤ z ≡ neg_ℤ (d *ℤ y) = omega (arith, ints, e) in
    let fourth : l *ℤ (a *ℤ z) ≡ neg_ℤ (l *ℤ (d *ℤ y)) = ap (λ (t : ℤ). l *ℤ t) negated ∙ mul-neg l (d *ℤ y) in
    let fifth : l *ℤ (d *ℤ y) ≡ d *ℤ (l *ℤ y) = left-comm l d y in
    cancel_left d (v *ℤ z) (l *ℤ y) ne (omega (arith, ints, first, second, third, fourth, fifth))

-- the column of a scale, at a coordinate of the basis
pub record IsColumn (a : Mat) (at : List ℕ) (rows : List ℤ) (col l : ℕ) (v : List ℤ) : Type 0 where
  pub long : length v ≡ width a
  pub own : entry v col ≡ pos l
  pub rest : (k : ℕ) → IsIn k (basis_of a.cols at) → k ≢ col → entry v k ≡ pos 0
  pub rows_are : (k i : ℕ) → k < width a → slice_index at k ≡ a.cols + i → i < length a.rows
      → entry v k *ℤ entry (row_at (a.cols + 1) rows i) a.cols ≡ neg_ℤ (entry (row_at (a.cols + 1) rows i) (slice_index at col) *ℤ pos l)

pub is_column : (a : Mat) (at order : List ℕ) (rows : List ℤ) (col l : ℕ) → IsTableau a at order rows → IsIn col (basis_of a.cols at) → MakesWhole a.cols (slice_index at col) rows (length a.rows) l
    → IsColumn a at rows col l (column_of a.cols (slice_index at col) rows l at)
is_column a at order rows col l t member whole =
    let n = a.cols in
    let c = slice_index at col in
    let c_lt : c < n = slot_below n at col member in
    let basis = rows_make_basis a at order t.wide t.placed (λ j lt. (row_at (n + 1) rows j, t.each j lt)) in
    let at_long = t.placed.at_long in
    record {
      long = length-column n c rows l at ∙ at_long;
      own = entry-column n c rows l at col (omega (arith, at_long, basis.below col member)) ∙ entry_own n c rows l c c_lt refl;
      rest = λ k m ne.
          let k_lt : k < width a = basis.below k m in
          let other : slice_index at k ≢ c = λ e. ne (sym (t.placed.there k k_lt) ∙ ap (slice_index order) e ∙ t.placed.there col (basis.below col member)) in
          entry-column n c rows l at k (omega (arith, at_long, k_lt)) ∙ entry_rest n c rows l (slice_index at k) (slot_below n at k m) other;
      rows_are = λ k i k_lt own i_lt.
          let is : entry (column_of n c rows l at) k ≡ column_entry n c rows l (n + i) = entry-column n c rows l at k (omega (arith, at_long)) ∙ ap (column_entry n c rows l) own in
          ap (λ (x : ℤ). x *ℤ entry (row_at (n + 1) rows i) n) is ∙ entry_times n c rows (length a.rows) l i whole i_lt;
    }

-- it is a vector (x, Ax)
pub column_in_space : (a : Mat) (at order : List ℕ) (rows : List ℤ) (col l : ℕ) (v : List ℤ) → IsTableau a at order rows → IsIn col (basis_of a.cols at) → IsColumn a at rows col l v → InRowSpace a v
column_in_space a at order rows col l v t member is =
    let n = a.cols in
    let basis = rows_make_basis a at order t.wide t.placed (λ j lt. (row_at (n + 1) rows j, t.each j lt)) in
    let z = column_at a (basis_of n at) col t.wide basis member in
    let each : (k : ℕ) → entry v k *ℤ entry z.y col ≡ pos l *ℤ entry z.y k = λ k. elim (lt_or k (width a)) as (λ _. entry v k *ℤ entry z.y col ≡ pos l *ℤ entry z.y k) [
      | inr past ↦ ap (λ (x : ℤ). x *ℤ entry z.y col) (past_end v k (omega (arith, is.long))) ∙ zero-*ℤ (entry z.y col)
          ∙ sym (ap (λ (x : ℤ). pos l *ℤ x) (past_end z.y k (omega (arith, z.row.long))) ∙ *ℤ-zero (pos l))
      | inl k_lt ↦ elim (isIn_or k (basis_of n at)) as (λ _. entry v k *ℤ entry z.y col ≡ pos l *ℤ entry z.y k) [
        | inl m ↦ elim (eq_or k col) as (λ _. entry v k *ℤ entry z.y col ≡ pos l *ℤ entry z.y k) [
          | inl e ↦ ap (λ j. entry v j *ℤ entry z.y col) e ∙ ap (λ (x : ℤ). x *ℤ entry z.y col) is.own ∙ ap (λ j. pos l *ℤ entry z.y j) (sym e)
          | inr ne ↦ ap (λ (x : ℤ). x *ℤ entry z.y col) (is.rest k m ne) ∙ zero-*ℤ (entry z.y col) ∙ sym (ap (λ (x : ℤ). pos l *ℤ x) (z.rest k m ne) ∙ *ℤ-zero (pos l))
        ]
        | inr far ↦
            let low : n ≤ slice_index at k = outside_slot n (width a) at order k t.placed k_lt far in
            let i = slice_index at k - n in
            let own : slice_index at k ≡ n + i = omega (arith, low) in
            let i_lt : i < length a.rows = omega (arith, low, t.placed.at_below k k_lt) in
            let d = entry (row_at (n + 1) rows i) n in
            crossed (entry (row_at (n + 1) rows i) (slice_index at col)) d (entry z.y col) (entry z.y k) (entry v k) (pos l)
            (λ e. omega (arith, ints, e, (t.each i i_lt).positive))
            (meets a at order rows col k i z.y t member k_lt own i_lt z.row z.rest) (is.rows_are k i k_lt own i_lt)
      ]
    ] in
    row_combined a (pos l) (pos 0) (entry z.y col) z.y z.y v z.some z.row z.row (is.long ∙ sym z.row.long)
    (λ k. each k ∙ (let e : pos l *ℤ entry z.y k ≡ (pos l *ℤ entry z.y k) -ℤ (pos 0 *ℤ entry z.y k) = omega (arith, ints, zero-*ℤ (entry z.y k)) in e))

-- y d = a (l' t) and t divides y: d divides a l'
smaller : (y d a l t : ℕ) → 1 ≤ t → y * d ≡ a * (l * t) → t ∣ y → d ∣ a * l
smaller y d a l t some e h =
    let first : t * d ∣ y * d = mul-dvd-mul_right t h d in
    let D : ℕ → ℕ → Type 0 = λ m n. m ∣ n in
    let same : y * d ≡ a * l * t = e ∙ sym (mul_assoc a l t) in
    dvd_of_mul-dvd-mul_right d some (subst (λ m. m ∣ a * l * t) (mul_comm t d) (subst (D (t * d)) same first))

-- it is primitive if the scale is the least
pub column_primitive : (a : Mat) (at order : List ℕ) (rows : List ℤ) (col l : ℕ) (v : List ℤ) → IsTableau a at order rows → IsColumn a at rows col l v
    → IsScale a.cols (slice_index at col) rows (length a.rows) l → IsPrimitive v
column_primitive a at order rows col l v t is s d divides =
    let n = a.cols in
    let c = slice_index at col in
    let D : ℕ → Type 0 = λ m. d ∣ m in
    let of_l : d ∣ l = subst D (ap unsigned_abs is.own) (divides col) in
    let some : 1 ≤ d = pos_of_dvd_of_pos of_l s.some in
    let l' = l / d in
    let whole : l' * d ≡ l = div-mul_cancel d of_l in
    let makes : MakesWhole n c rows (length a.rows) l' = λ i i_lt.
    let k = slice_index order (n + i) in
    let k_lt : k < width a = t.placed.order_below (n + i) (omega arith) in
    let own : slice_index at k ≡ n + i = t.placed.back (n + i) (omega arith) in
    let x = entry (row_at (n + 1) rows i) c in
    let own_entry = entry (row_at (n + 1) rows i) n in
    let sizes : unsigned_abs (entry v k) * unsigned_abs own_entry ≡ unsigned_abs x * (l' * d) =
    sym (unsigned_abs-mul (entry v k) own_entry) ∙ ap unsigned_abs (is.rows_are k i k_lt own i_lt) ∙ abs_times x l ∙ ap (λ m. unsigned_abs x * m) (sym whole) in
    smaller (unsigned_abs (entry v k)) (unsigned_abs own_entry) (unsigned_abs x) l' d some sizes (divides k) in
    let up : l ∣ l' = s.least l' makes in
    let E : ℕ → Type 0 = λ m. l' ∣ m in
    let down : l' ∣ l = subst E whole (dvd-mul_right l' d) in
    let same : l' ≡ l = dvd_antisymm down up in
    let l_some : 1 ≤ l' = omega (arith, same, s.some) in
    eq_of_mul-eq-mul_left l' l_some d 1 (whole ∙ sym same ∙ (let e : l' ≡ l' * 1 = omega arith in e))

-- it is what the basis names
pub column_named : (a : Mat) (at order : List ℕ) (rows : List ℤ) (col l : ℕ) → IsTableau a at order rows → IsIn col (basis_of a.cols at) → IsScale a.cols (slice_index at col) rows (length a.rows) l
    → IsNamed a (basis_of a.cols at) col (column_of a.cols (slice_index at col) rows l at)
column_named a at order rows col l t member s =
    let n = a.cols in
    let v = column_of n (slice_index at col) rows l at in
    let is = is_column a at order rows col l t member s.whole in
    record {
      basis_is = rows_make_basis a at order t.wide t.placed (λ j lt. (row_at (n + 1) rows j, t.each j lt));
      primitive = column_primitive a at order rows col l v t is s;
      named = inl (record { member = member; space = column_in_space a at order rows col l v t member is; zero_on_rest = is.rest });
    }

at_most : (k l : ℕ) → 1 ≤ l → k ∣ l → k ≤ l
at_most k l some h = le_of_dvd some h

-- a wide scale of some first rows makes a wide vector
pub wide_scale : (a : Mat) (at order : List ℕ) (rows : List ℤ) (col : ℕ) → IsTableau a at order rows → IsIn col (basis_of a.cols at) → HasWideScale a.cols (slice_index at col) (length a.rows) rows
    → WideAt a (basis_of a.cols at) col
wide_scale a at order rows col t member h =
    let n = a.cols in
    let c = slice_index at col in
    let all = scale_of n c rows (length a.rows) (λ j lt. omega (arith, ints, (t.each j lt).positive)) in
    let l = all.0 in
    let is = is_column a at order rows col l t member all.1.whole in
    let grows : h.l ∣ l = scale_grows n c rows h.i (length a.rows) h.l l h.inside h.is all.1 in
    let le : h.l ≤ l = at_most h.l l all.1.some grows in
    (column_of n c rows l at, column_named a at order rows col l t member all.1, (col, omega (arith, le, h.wide, ap unsigned_abs is.own)))
