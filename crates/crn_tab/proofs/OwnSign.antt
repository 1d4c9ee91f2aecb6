-- The kept row of a coordinate outside the basis is positive there, and its signs are those of every vector named so.
use Rattle.crn_tab.proofs.Prelude.{◌≡◌, ℕ, zero, suc, ◌+◌, ◌-◌, ◌<◌, inl, inr, List, length, set, get_or, sym, ap, subst, ◌∙◌, arith, ℤ, pos, negsuc, ◌*ℤ◌, ◌≤ℤ◌, slice_index, ints, get_or-set_same, get_or-set_other, Sign, Zero, Plus, Minus, Mat, entry, HasSign, IsIn, width, IsNamed, IsNamedRow, no_zero, eq_or, one-mul, IsRowOfSign, NamesRows, slot_entry, spread, basis_of, row_at, IsTableau}
use lib.IntN.{*ℤ-zero}
use Rattle.crn_tab.proofs.Places.{entry-spread, slot_own}
use Rattle.crn_tab.proofs.Signs.{one_row, no_wide}
use Rattle.crn_tab.proofs.Bases.{rows_make_basis}
use Rattle.crn_tab.proofs.RowVector.{IsRowOf, row_of}

pub as_row : (a : Mat) (basis : List ℕ) (k : ℕ) (w : List ℤ) → ¬ IsIn k basis → IsNamed a basis k w → IsNamedRow a basis k w
as_row a basis k w out n = elim n.named [ inl c ↦ absurd (out c.member) | inr r ↦ r ]

same_side : (p q : ℕ) (s : Sign) (x y : ℤ) → pos (suc p) *ℤ x ≡ pos (suc q) *ℤ y → HasSign s x → HasSign s y
same_side p q Zero x y e h = no_zero (pos (suc q)) y (sym e ∙ ap (λ (t : ℤ). pos (suc p) *ℤ t) h ∙ *ℤ-zero (pos (suc p))) (λ z. omega (arith, ints, z))
same_side p q Plus (pos zero) y e h = absurd (omega (arith, ints, h))
same_side p q Plus (pos (suc x)) (pos zero) e h = absurd (omega (arith, ints, e))
same_side p q Plus (pos (suc x)) (pos (suc y)) e h = omega (arith, ints)
same_side p q Plus (pos (suc x)) (negsuc y) e h = absurd (omega (arith, ints, e))
same_side p q Plus (negsuc x) y e h = absurd (omega (arith, ints, h))
same_side p q Minus (pos x) y e h = absurd (omega (arith, ints, h))
same_side p q Minus (negsuc x) (pos y) e h = absurd (omega (arith, ints, e))
same_side p q Minus (negsuc x) (negsuc y) e h = omega (arith, ints)

-- multiples of two numbers by positive numbers that are equal have one sign
pub sign_carried : (s : Sign) (p q x y : ℤ) → pos 1 ≤ℤ p → pos 1 ≤ℤ q → p *ℤ x ≡ q *ℤ y → HasSign s x → HasSign s y
sign_carried s (pos zero) q x y hp hq e h = absurd (omega (arith, ints, hp))
sign_carried s (negsuc p) q x y hp hq e h = absurd (omega (arith, ints, hp))
sign_carried s (pos (suc p)) (pos zero) x y hp hq e h = absurd (omega (arith, ints, hq))
sign_carried s (pos (suc p)) (negsuc q) x y hp hq e h = absurd (omega (arith, ints, hq))
sign_carried s (pos (suc p)) (pos (suc q)) x y hp hq e h = same_side p q s x y e h

pub own_positive : (a : Mat) (at order : List ℕ) (rows : List ℤ) (k : ℕ) → IsTableau a at order rows → k < width a → IsRowOf a at rows k (slice_index at k - a.cols)
    → pos 1 ≤ℤ entry (spread a.cols (slice_index at k - a.cols) (row_at (a.cols + 1) rows (slice_index at k - a.cols)) at) k
own_positive a at order rows k t lt own =
    let n = a.cols in
    let i = slice_index at k - n in
    let e : entry (spread n i (row_at (n + 1) rows i) at) k ≡ entry (row_at (n + 1) rows i) n =
    entry-spread n i (row_at (n + 1) rows i) at k (omega (arith, t.placed.at_long)) ∙ slot_own n i (row_at (n + 1) rows i) (slice_index at k) (omega (arith, own.low)) in
    subst (λ (z : ℤ). pos 1 ≤ℤ z) (sym e) (t.each i own.i_lt).positive

pub names_rows : (a : Mat) (at order : List ℕ) (rows : List ℤ) → IsTableau a at order rows → NamesRows a (basis_of a.cols at)
names_rows a at order rows t = record {
  wide = t.wide;
  some = t.some;
  few = t.few;
  basis_is = rows_make_basis a at order t.wide t.placed (λ j j_lt. (row_at (a.cols + 1) rows j, t.each j j_lt));
  narrow = λ k wide. no_wide a at order rows k t wide.0 wide.1;
  rows = λ e lt out.
      let own = row_of a at order rows e t lt out in
      record {
        w = spread a.cols (slice_index at e - a.cols) (row_at (a.cols + 1) rows (slice_index at e - a.cols)) at;
        named = own.named;
        positive = own_positive a at order rows e t lt own;
        small = own.bounded;
      };
}

-- the sign of an entry of the kept row is that of every vector named so and positive at its coordinate
pub named_sign : (a : Mat) (at order : List ℕ) (rows : List ℤ) (k j : ℕ) (s : Sign) → IsTableau a at order rows → k < width a → j < width a → ¬ IsIn k (basis_of a.cols at)
    → HasSign s (slot_entry a.cols (slice_index at k - a.cols) (row_at (a.cols + 1) rows (slice_index at k - a.cols)) (slice_index at j))
    → (w : List ℤ) → IsNamedRow a (basis_of a.cols at) k w → pos 1 ≤ℤ entry w k → HasSign s (entry w j)
named_sign a at order rows k j s t lt j_lt out h w named positive =
    let n = a.cols in
    let i = slice_index at k - n in
    let row = row_at (n + 1) rows i in
    let own = row_of a at order rows k t lt out in
    let v = spread n i row at in
    let e : entry v j ≡ slot_entry n i row (slice_index at j) = entry-spread n i row at j (omega (arith, t.placed.at_long)) in
    let here : HasSign s (entry v j) = subst (HasSign s) (sym e) h in
    sign_carried s (entry w k) (entry v k) (entry v j) (entry w j) positive (own_positive a at order rows k t lt own)
    (one_row a (basis_of n at) k v w t.wide own.named.basis_is (as_row a (basis_of n at) k v out own.named) named j) here

-- the sign of the entry that a program looks at
pub sign_made : (n n' i i' j : ℕ) (part row : List ℤ) (x : ℤ) (s : Sign) → n' ≡ n → i' ≡ i → part ≡ row → x ≡ slot_entry n' i' part j → HasSign s x → HasSign s (slot_entry n i row j)
sign_made n n' i i' j part row x s e f g h k =
    let A : ℕ → Type 0 = λ m. x ≡ slot_entry m i' part j in
    let B : ℕ → Type 0 = λ m. x ≡ slot_entry n m part j in
    let C : List ℤ → Type 0 = λ v. x ≡ slot_entry n i v j in
    subst (HasSign s) (subst C g (subst B f (subst A e h))) k

-- the sign at j of the vectors that k names, if they have this sign at k
pub row_signed : (a : Mat) (at order : List ℕ) (rows : List ℤ) (k j : ℕ) (s r sign : Sign) (w : List ℤ) → IsTableau a at order rows → k < width a → j < width a → ¬ IsIn k (basis_of a.cols at)
    → HasSign s (slot_entry a.cols (slice_index at k - a.cols) (row_at (a.cols + 1) rows (slice_index at k - a.cols)) (slice_index at j))
    → ((x y : ℤ) → HasSign sign x → HasSign s y → HasSign r (x *ℤ y)) → IsRowOfSign a (basis_of a.cols at) k sign w → HasSign r (entry w j)
row_signed a at order rows k j s r sign w t lt j_lt out h product named =
    let n = a.cols in
    let i = slice_index at k - n in
    let row = row_at (n + 1) rows i in
    let own = row_of a at order rows k t lt out in
    let v = spread n i row at in
    let e : entry v j ≡ slot_entry n i row (slice_index at j) = entry-spread n i row at j (omega (arith, t.placed.at_long)) in
    let both : HasSign r (entry w k *ℤ entry v j) = product (entry w k) (entry v j) named.1 (subst (HasSign s) (sym e) h) in
    sign_carried r (pos 1) (entry v k) (entry w k *ℤ entry v j) (entry w j) (omega (arith, ints)) (own_positive a at order rows k t lt own)
    (one-mul (entry w k *ℤ entry v j) ∙ sym (one_row a (basis_of n at) k w v t.wide own.named.basis_is named.0 (as_row a (basis_of n at) k v out own.named) j)) both

-- one more sign
pub sign_put : (signs : List Sign) (y : List ℤ) (c : ℕ) (s : Sign) → c < length signs → ((k : ℕ) → k < c → HasSign (get_or signs k Zero) (entry y k)) → HasSign s (entry y c)
    → (k : ℕ) → k < c + 1 → HasSign (get_or (set signs c s) k Zero) (entry y k)
sign_put signs y c s lt before here k k_lt = elim (eq_or k c) as (λ _. HasSign (get_or (set signs c s) k Zero) (entry y k)) [
  | inl e ↦ subst (λ (j : ℕ). HasSign (get_or (set signs c s) j Zero) (entry y j)) (sym e) (subst (λ (t : Sign). HasSign t (entry y c)) (sym (get_or-set_same signs c s Zero lt)) here)
  | inr ne ↦ subst (λ (t : Sign). HasSign t (entry y k)) (sym (get_or-set_other signs c k s Zero ne)) (before k (omega (arith, k_lt, ne)))
]
