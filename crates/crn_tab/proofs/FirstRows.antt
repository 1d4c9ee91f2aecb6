-- The rows that a tableau keeps at first make a tableau.
use Rattle.crn_tab.proofs.Prelude.{◌≡◌, ◌≢◌, ℕ, zero, suc, ◌+◌, ◌-◌, ◌*◌, ◌<◌, ◌≤◌, inl, inr, List, [], ◌∷◌, ◌++◌, length, get_or, take, drop, map, refl, sym, ap, subst, ◌∙◌, arith, lit<, append_assoc, add-one, ℤ, pos, neg_ℤ, ◌*ℤ◌, slice_index, unsigned_abs, ◌∣◌, ints, append-nil, get_or-drop, get_or-append-add, get_or_append_left, length-append, one-dvd, suc-mul, take-append_seam, MAX_AMOUNT, MAX_COORDINATES, WIDE_ENTRY, Mat, entry, dot, column, AreOfLength, AreWithin, width, InDualSpace, within_at, past_end, lt_or, length-neg, entry-neg, dot_single, zero_times, entry-column, row_count, AreSmall, choose, IsContent, slot_entry, spread, basis_from, row_at, ArePlaced, IsRowAt, IsTableau, IsIdentity, start_row, start_rows}
use Rattle.crn_tab.proofs.SameRows.{everywhere}
use Rattle.crn_tab.proofs.Places.{lt_true, lt_false, slot_basic, slot_own, slot_none, length-spread, entry-spread}
use Rattle.crn_tab.proofs.Finish.{below_list}

pub length-start_row : (r : List ℤ) → length (start_row r) ≡ length r + 1
length-start_row r = omega (arith, length-append (map neg_ℤ r) (pos 1 ∷ []), length-neg r)

pub start_entry : (r : List ℤ) (j : ℕ) → j < length r → entry (start_row r) j ≡ neg_ℤ (entry r j)
start_entry r j lt = get_or_append_left (map neg_ℤ r) (pos 1 ∷ []) (pos 0) j (omega (arith, length-neg r)) ∙ entry-neg r j

pub start_last : (r : List ℤ) → entry (start_row r) (length r) ≡ pos 1
start_last r =
    ap (λ k. entry (start_row r) k) (let e : length r ≡ length (map neg_ℤ r) + 0 = omega (arith, length-neg r) in e)
    ∙ get_or-append-add (map neg_ℤ r) (pos 1 ∷ []) 0 (pos 0)

by_suc : (rs : List (List ℤ)) (i : ℕ) → i < length rs → start_rows (take (suc i) rs) ≡ start_rows (take i rs) ++ start_row (get_or rs i [])
by_suc [] i h = absurd (omega arith)
by_suc (r ∷ rs) zero h = append-nil (start_row r)
by_suc (r ∷ rs) (suc i) h = ap (λ (v : List ℤ). start_row r ++ v) (by_suc rs i (omega arith)) ∙ sym (append_assoc (start_row r) (start_rows (take i rs)) (start_row (get_or rs i [])))

pub start_rows_step : (rs : List (List ℤ)) (i : ℕ) → i < length rs → start_rows (take (i + 1) rs) ≡ start_rows (take i rs) ++ start_row (get_or rs i [])
start_rows_step rs i h = rw add-one (by_suc rs i h)

length-start_rows : (n : ℕ) (rs : List (List ℤ)) → AreOfLength n rs → length (start_rows rs) ≡ length rs * (n + 1)
length-start_rows n [] w = omega arith
length-start_rows n (r ∷ rs) w =
    omega (arith, length-append (start_row r) (start_rows rs), length-start_row r, w.0, length-start_rows n rs w.1, suc-mul (length rs) (n + 1))

drop_more : (xs ys : List ℤ) (k : ℕ) → drop (length xs + k) (xs ++ ys) ≡ drop k ys
drop_more [] ys k = ap (λ j. drop j ys) (let e : 0 + k ≡ k = omega arith in e)
drop_more (x ∷ xs) ys k = ap (λ j. drop j (x ∷ (xs ++ ys))) (let e : suc (length xs) + k ≡ suc (length xs + k) = omega arith in e) ∙ drop_more xs ys k

start_row_at : (n : ℕ) (rs : List (List ℤ)) (i : ℕ) → AreOfLength n rs → i < length rs → row_at (n + 1) (start_rows rs) i ≡ start_row (get_or rs i [])
start_row_at n [] i w h = absurd (omega arith)
start_row_at n (r ∷ rs) zero w h =
    let e : n + 1 ≡ length (start_row r) = omega (arith, length-start_row r, w.0) in
    ap (λ k. take (n + 1) (drop k (start_row r ++ start_rows rs))) (let z : 0 * (n + 1) ≡ 0 = omega arith in z)
    ∙ ap (λ k. take k (start_row r ++ start_rows rs)) e ∙ take-append_seam (start_row r) (start_rows rs)
start_row_at n (r ∷ rs) (suc i) w h =
    let e : n + 1 ≡ length (start_row r) = omega (arith, length-start_row r, w.0) in
    let f : suc i * (n + 1) ≡ length (start_row r) + i * (n + 1) = omega (arith, suc-mul i (n + 1)) in
    ap (λ k. take (n + 1) (drop k (start_row r ++ start_rows rs))) f
    ∙ ap (take (n + 1)) (drop_more (start_row r) (start_rows rs) (i * (n + 1)))
    ∙ start_row_at n rs i w.1 (omega arith)

-- one more entry of the negative row
map_suc : (r : List ℤ) (k : ℕ) → k < length r → map neg_ℤ (take (suc k) r) ≡ map neg_ℤ (take k r) ++ (neg_ℤ (entry r k) ∷ [])
map_suc [] k h = absurd (omega arith)
map_suc (x ∷ r) zero h = refl
map_suc (x ∷ r) (suc k) h = ap (λ (v : List ℤ). neg_ℤ x ∷ v) (map_suc r k (omega arith))

pub negatives_step : (r : List ℤ) (k : ℕ) → k < length r → map neg_ℤ (take (k + 1) r) ≡ map neg_ℤ (take k r) ++ (neg_ℤ (entry r k) ∷ [])
negatives_step r k h = rw add-one (map_suc r k h)

-- a slot of its own for each coordinate
count_from : (n k : ℕ) (at : List ℕ) → ((j : ℕ) → j < length at → slice_index at j ≡ k + j) → n ≤ k + length at → length (basis_from k n at) ≡ n - k
count_from n k [] h le = omega arith
count_from n k (s ∷ at) h le =
    let rest = count_from n (suc k) at (λ j lt. h (suc j) (omega arith) ∙ (let e : k + suc j ≡ suc k + j = omega arith in e)) (omega arith) in
    elim (lt_or s n) [
      | inl low ↦ ap (λ b. length (choose b (k ∷ basis_from (suc k) n at) (basis_from (suc k) n at))) (lt_true s n low) ∙ (let e : suc (length (basis_from (suc k) n at)) ≡ n - k = omega (arith, rest, h 0 (omega arith)) in e)
      | inr high ↦ ap (λ b. length (choose b (k ∷ basis_from (suc k) n at) (basis_from (suc k) n at))) (lt_false s n high) ∙ (let e : length (basis_from (suc k) n at) ≡ n - k = omega (arith, rest, h 0 (omega arith)) in e)
    ]

pub identity_placed : (n count : ℕ) (at order : List ℕ) → IsIdentity count at → IsIdentity count order → n ≤ count → ArePlaced n count at order
identity_placed n count at order p q le = record {
  at_long = p.long;
  order_long = q.long;
  at_below = λ k lt. omega (arith, p.is k lt);
  order_below = λ s lt. omega (arith, q.is s lt);
  there = λ k lt. ap (slice_index order) (p.is k lt) ∙ q.is k lt;
  back = λ s lt. ap (slice_index at) (q.is s lt) ∙ p.is s lt;
  basis = count_from n 0 at (λ j lt. p.is j (omega (arith, p.long)) ∙ (let e : j ≡ 0 + j = omega arith in e)) (omega (arith, p.long)) ∙ (let e : n - 0 ≡ n = omega arith in e);
}

one_times : (u x : ℤ) → u ≡ pos 1 → u *ℤ x ≡ x
one_times u x e = ap (λ (t : ℤ). t *ℤ x) e ∙ (let f : pos 1 *ℤ x ≡ x = omega (arith, ints) in f)

-- the vector of row i at first: minus the row, then 1 at its own coordinate alone
pub first_dual : (a : Mat) (at : List ℕ) (i : ℕ) → AreOfLength a.cols a.rows → IsIdentity (width a) at → i < length a.rows → InDualSpace a (spread a.cols i (start_row (get_or a.rows i [])) at)
first_dual a at i wide id lt =
    let n = a.cols in
    let r = get_or a.rows i [] in
    let row = start_row r in
    let w = spread n i row at in
    let r_long : length r ≡ n = row_count n a.rows i wide lt in
    let in_at : (k : ℕ) → k < width a → entry w k ≡ slot_entry n i row k = λ k k_lt. entry-spread n i row at k (omega (arith, id.long)) ∙ ap (slot_entry n i row) (id.is k k_lt) in
    record {
      long = length-spread n i row at ∙ id.long;
      is = λ j j_lt.
          let left : entry w j ≡ neg_ℤ (entry r j) = in_at j (omega arith) ∙ slot_basic n i row j j_lt ∙ start_entry r j (omega (arith, r_long)) in
          let below : (k : ℕ) → entry (drop n w) k ≡ entry w (n + k) = λ k. get_or-drop n w k (pos 0) in
          let others : (k : ℕ) → k ≢ i → entry (drop n w) k *ℤ entry (column a.rows j) k ≡ pos 0 = λ k ne. zero_times (entry (drop n w) k) (entry (column a.rows j) k) (below k ∙ elim (lt_or (n + k) (width a)) as (λ _. entry w (n + k) ≡ pos 0) [
            | inl k_lt ↦ in_at (n + k) k_lt ∙ slot_none n i row (n + k) (omega arith) (λ e. ne (omega arith))
            | inr past ↦ past_end w (n + k) (omega (arith, length-spread n i row at, id.long))
          ]) in
          let own : entry (drop n w) i ≡ pos 1 = below i ∙ in_at (n + i) (omega arith) ∙ slot_own n i row (n + i) refl ∙ ap (λ k. entry row k) (sym r_long) ∙ start_last r in
          let product : dot (drop n w) (column a.rows j) ≡ entry r j =
          dot_single (drop n w) (column a.rows j) i others ∙ one_times (entry (drop n w) i) (entry (column a.rows j) i) own ∙ entry-column a.rows j i in
          left ∙ ap neg_ℤ (sym product);
    }

-- a list with a 1 is primitive
pub one_primitive : (v : List ℤ) (k : ℕ) → entry v k ≡ pos 1 → IsContent v 1
one_primitive v k e = record {
  divides = λ j. one-dvd (unsigned_abs (entry v j));
  greatest = λ d h. let D : ℕ → Type 0 = λ m. d ∣ m in subst D (ap unsigned_abs e) (h k);
}

first_below : (bound : ℕ) (r : List ℤ) → MAX_AMOUNT < bound → 1 < bound → AreWithin MAX_AMOUNT r → (k : ℕ) → unsigned_abs (entry (start_row r) k) < bound
first_below bound r few some h = everywhere (λ z. unsigned_abs z < bound) (start_row r) (omega arith) (λ k lt. elim (lt_or k (length r)) as (λ _. unsigned_abs (entry (start_row r) k) < bound) [
  | inl low ↦
      let e : unsigned_abs (entry (start_row r) k) ≡ unsigned_abs (neg_ℤ (entry r k)) = ap unsigned_abs (start_entry r k low) in
      omega (arith, ints, few, e, within_at MAX_AMOUNT k r h)
  | inr high ↦
      let same : k ≡ length r = omega (arith, length-start_row r) in
      let e : unsigned_abs (entry (start_row r) k) ≡ 1 = ap (λ j. unsigned_abs (entry (start_row r) j)) same ∙ ap unsigned_abs (start_last r) in
      omega (arith, e, some)
])

pub first_tableau : (a : Mat) (at order : List ℕ) → AreOfLength a.cols a.rows → 1 ≤ a.cols → width a ≤ MAX_COORDINATES → ((i : ℕ) → AreWithin MAX_AMOUNT (get_or a.rows i []))
    → IsIdentity (width a) at → IsIdentity (width a) order → IsTableau a at order (start_rows a.rows)
first_tableau a at order wide some few within p q =
    let n = a.cols in
    let row_is : (i : ℕ) → i < length a.rows → row_at (n + 1) (start_rows a.rows) i ≡ start_row (get_or a.rows i []) = λ i lt. start_row_at n a.rows i wide lt in
    let long = length-start_rows n a.rows wide in
    record {
      wide = wide;
      some = some;
      few = few;
      placed = identity_placed n (width a) at order p q (omega arith);
      long = long;
      each = λ i lt.
          let r = get_or a.rows i [] in
          let r_long : length r ≡ n = row_count n a.rows i wide lt in
          let last : entry (start_row r) n ≡ pos 1 = ap (λ k. entry (start_row r) k) (sym r_long) ∙ start_last r in
          let R : List ℤ → Type 0 = λ v. IsRowAt a at i v in
          subst R (sym (row_is i lt)) (record {
            long = omega (arith, length-start_row r, r_long);
            dual = first_dual a at i wide p lt;
            positive = omega (arith, ints, last);
            primitive = one_primitive (start_row r) n last;
          });
      small = below_list WIDE_ENTRY (n + 1) (length a.rows) (start_rows a.rows) (lit< tt) (omega arith) long
          (λ i lt. let S : List ℤ → Type 0 = AreSmall in subst S (sym (row_is i lt)) (first_below WIDE_ENTRY (get_or a.rows i []) (lit< tt) (lit< tt) (within i)));
    }
