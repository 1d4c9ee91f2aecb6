-- The entries of the kept row of a coordinate outside the basis are those of every primitive vector named so and positive there.
use Rattle.crn_tab.proofs.Prelude.{◌≡◌, ℕ, ◌+◌, ◌-◌, ◌<◌, inl, inr, List, sym, ap, ◌∙◌, arith, ℤ, pos, ◌≤ℤ◌, slice_index, unsigned_abs, ints, WIDE_ENTRY, Mat, entry, IsIn, width, IsNamed, slot_entry, spread, basis_of, row_at, IsTableau}
use Rattle.crn_tab.proofs.Places.{entry-spread}
use Rattle.crn_tab.proofs.RowVector.{row_of}
use Rattle.crn_tab.proofs.OwnSign.{own_positive}
use Rattle.crn_tab.proofs.OneVector.{one_vector}

pub record IsNumber (a : Mat) (basis : List ℕ) (k j : ℕ) (x : ℤ) : Type 0 where
  pub is : (w : List ℤ) → IsNamed a basis k w → pos 1 ≤ℤ entry w k → x ≡ entry w j
  pub small : unsigned_abs x < WIDE_ENTRY

pub named_number : (a : Mat) (at order : List ℕ) (rows : List ℤ) (k j : ℕ) (x : ℤ) → IsTableau a at order rows → k < width a → j < width a → ¬ IsIn k (basis_of a.cols at)
    → x ≡ slot_entry a.cols (slice_index at k - a.cols) (row_at (a.cols + 1) rows (slice_index at k - a.cols)) (slice_index at j) → IsNumber a (basis_of a.cols at) k j x
named_number a at order rows k j x t lt j_lt out h =
    let n = a.cols in
    let i = slice_index at k - n in
    let row = row_at (n + 1) rows i in
    let own = row_of a at order rows k t lt out in
    let v = spread n i row at in
    let e : entry v j ≡ slot_entry n i row (slice_index at j) = entry-spread n i row at j (omega (arith, t.placed.at_long)) in
    let here : x ≡ entry v j = h ∙ sym e in
    let first : pos 1 ≤ℤ entry v k = own_positive a at order rows k t lt own in
    record {
      is = λ w named positive. elim (one_vector a (basis_of n at) k v w t.wide own.named named) as (λ _. x ≡ entry w j) [
        | inl same ↦ here ∙ same j
        | inr opposite ↦ absurd (omega (arith, ints, first, positive, opposite k))
      ];
      small = omega (arith, own.bounded j, ap unsigned_abs here);
    }
