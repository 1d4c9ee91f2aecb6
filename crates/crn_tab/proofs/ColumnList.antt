-- How the list of a column is filled, slot by slot.
use Rattle.crn_tab.proofs.Prelude.{◌≡◌, ◌≢◌, ◌+◌, ◌<◌, ◌≤◌, ℕ, inl, inr, List, length, ap, sym, subst, ◌∙◌, arith, ℤ, pos, ◌*ℤ◌, ◌≤ℤ◌, neg_ℤ, slice_index, unsigned_abs, ints, WIDE_ENTRY, length-set, entry, eq_or, put, AreSmall, ArePlaced, MakesWhole, column_entry, column_of, row_at, IsWide}
use lib.IntN.{zero-*ℤ}
use Rattle.crn_tab.proofs.ColumnVector.{entry_own, entry_rest, entry_by, length-column, entry-column}
use Rattle.crn_tab.proofs.NewRows.{put_same, put_other}
use Rattle.crn_tab.proofs.SameRows.{same_rows, small_everywhere}

-- the list has the entries at the slots before slot e, and each of them is small
pub record IsFilledTo (n c l : ℕ) (rows : List ℤ) (order : List ℕ) (count e : ℕ) (v : List ℤ) : Type 0 where
  pub long : length v ≡ count
  pub made : (s : ℕ) → s < e → s < count → entry v (slice_index order s) ≡ column_entry n c rows l s
  pub small : (s : ℕ) → s < e → s < count → unsigned_abs (entry v (slice_index order s)) < WIDE_ENTRY

-- coordinates of two slots are two
apart : (n count : ℕ) (at order : List ℕ) (s t : ℕ) → ArePlaced n count at order → s < count → t < count → s ≢ t → slice_index order s ≢ slice_index order t
apart n count at order s t p hs ht ne e = ne (sym (p.back s hs) ∙ ap (slice_index at) e ∙ p.back t ht)

-- the entry at slot e, at its coordinate
pub next_filled : (n c l count e : ℕ) (rows : List ℤ) (at order : List ℕ) (v : List ℤ) (x : ℤ) → ArePlaced n count at order → e < count → IsFilledTo n c l rows order count e v
    → x ≡ column_entry n c rows l e → unsigned_abs x < WIDE_ENTRY → IsFilledTo n c l rows order count (e + 1) (put v (slice_index order e) x)
next_filled n c l count e rows at order v x p inside h is fits =
    let k = slice_index order e in
    let k_in : k < length v = omega (arith, h.long, p.order_below e inside) in
    let own : entry (put v k x) k ≡ x = put_same v k x k_in in
    record {
      long = length-set v k x ∙ h.long;
      made = λ s lt s_in. elim (eq_or s e) as (λ _. entry (put v k x) (slice_index order s) ≡ column_entry n c rows l s) [
        | inl f ↦ ap (λ j. entry (put v k x) (slice_index order j)) f ∙ own ∙ is ∙ ap (column_entry n c rows l) (sym f)
        | inr ne ↦ put_other v k (slice_index order s) x k_in (apart n count at order s e p s_in inside ne) ∙ h.made s (omega (arith, lt, ne)) s_in
      ];
      small = λ s lt s_in. elim (eq_or s e) as (λ _. unsigned_abs (entry (put v k x) (slice_index order s)) < WIDE_ENTRY) [
        | inl f ↦ omega (arith, fits, ap unsigned_abs (ap (λ j. entry (put v k x) (slice_index order j)) f ∙ own))
        | inr ne ↦ omega (arith, h.small s (omega (arith, lt, ne)) s_in, ap unsigned_abs (put_other v k (slice_index order s) x k_in (apart n count at order s e p s_in inside ne)))
      ];
    }

-- no slot yet
pub none_filled : (n c l count : ℕ) (rows : List ℤ) (order : List ℕ) (v : List ℤ) → length v ≡ count → IsFilledTo n c l rows order count 0 v
none_filled n c l count rows order v long = record { long = long; made = λ s lt s_in. absurd (omega arith); small = λ s lt s_in. absurd (omega arith) }

-- an entry at a slot in the basis, and that it is small
pub basic : (n c l s : ℕ) (rows : List ℤ) (x : ℤ) → c < n → s < n → l < WIDE_ENTRY → (s ≡ c → x ≡ pos l) → (s ≢ c → x ≡ pos 0) → (x ≡ column_entry n c rows l s) × (unsigned_abs x < WIDE_ENTRY)
basic n c l s rows x c_lt s_lt small own rest = elim (eq_or s c) as (λ _. (x ≡ column_entry n c rows l s) × (unsigned_abs x < WIDE_ENTRY)) [
  | inl e ↦ (own e ∙ sym (entry_own n c rows l s c_lt e), omega (arith, ints, small, own e))
  | inr ne ↦ (rest ne ∙ sym (entry_rest n c rows l s s_lt ne), omega (arith, ints, rest ne))
]

-- after the last row it is the column
pub all_filled : (n c l count e : ℕ) (rows : List ℤ) (at order : List ℕ) (v : List ℤ) → ArePlaced n count at order → count ≤ e → IsFilledTo n c l rows order count e v → (v ≡ column_of n c rows l at) × AreSmall v
all_filled n c l count e rows at order v p last h =
    let z = column_of n c rows l at in
    let long : length z ≡ count = length-column n c rows l at ∙ p.at_long in
    let same : v ≡ z = same_rows v z (h.long ∙ sym long) (λ k lt.
    let k_in : k < count = omega (arith, lt, h.long) in
    let s = slice_index at k in
    ap (λ j. entry v j) (sym (p.there k k_in)) ∙ h.made s (omega (arith, p.at_below k k_in, last)) (p.at_below k k_in) ∙ sym (entry-column n c rows l at k (omega (arith, k_in, p.at_long)))) in (
      same,
      small_everywhere v (λ k lt.
          let k_in : k < count = omega (arith, lt, h.long) in
          let s = slice_index at k in
          subst (λ j. unsigned_abs (entry v j) < WIDE_ENTRY) (p.there k k_in) (h.small s (omega (arith, p.at_below k k_in, last)) (p.at_below k k_in))),
    )

-- a wide entry at a slot is one of the column
pub wide_entry : (n c l count s : ℕ) (rows : List ℤ) (at order : List ℕ) (x : ℤ) → ArePlaced n count at order → s < count → x ≡ column_entry n c rows l s → WIDE_ENTRY ≤ unsigned_abs x → IsWide (column_of n c rows l at)
wide_entry n c l count s rows at order x p lt is wide =
    let k = slice_index order s in
    let e : x ≡ entry (column_of n c rows l at) k = is ∙ ap (column_entry n c rows l) (sym (p.back s lt)) ∙ sym (entry-column n c rows l at k (omega (arith, p.order_below s lt, p.at_long))) in
    (k, omega (arith, wide, ap unsigned_abs e))

-- the entry from its product with the row's own entry
pub entry_from : (n c m l i : ℕ) (rows row : List ℤ) (x : ℤ) → MakesWhole n c rows m l → i < m → pos 1 ≤ℤ entry (row_at (n + 1) rows i) n → row ≡ row_at (n + 1) rows i
    → x *ℤ entry row n ≡ neg_ℤ (entry row c *ℤ pos l) → x ≡ column_entry n c rows l (n + i)
entry_from n c m l i rows row x whole lt some e h =
    let R : List ℤ → Type 0 = λ v. x *ℤ entry v n ≡ neg_ℤ (entry v c *ℤ pos l) in
    entry_by n c rows m l i x whole lt some (subst R e h)

-- what an entry of 0 makes
pub nothing : (num den : ℤ) (l : ℕ) → num ≡ pos 0 → pos 0 *ℤ den ≡ neg_ℤ (num *ℤ pos l)
nothing num den l e = omega (arith, ints, zero-*ℤ den, ap (λ (x : ℤ). x *ℤ pos l) e, zero-*ℤ (pos l))
