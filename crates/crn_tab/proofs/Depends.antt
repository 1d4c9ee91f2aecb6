-- How a coordinate outside the basis depends on one in it.
use Rattle.crn_tab.proofs.Prelude.{◌≡◌, ◌≢◌, ℕ, ◌+◌, ◌-◌, ◌<◌, inl, inr, List, sym, ap, ◌∙◌, arith, ℤ, pos, ◌+ℤ◌, ◌*ℤ◌, neg_ℤ, slice_index, unsigned_abs, ints, Mat, entry, IsIn, width, IsBasis, IsNamed, IsNamedRow, IsNamedColumn, no_zero, left-comm, mul-neg, neg-mul, spread, basis_of, row_at, IsTableau}
use lib.IntN.{*ℤ_comm, *ℤ-zero}
use Rattle.crn_tab.proofs.Places.{entry-spread, slot_basic}
use Rattle.crn_tab.proofs.Bases.{rows_make_basis, at_own}
use Rattle.crn_tab.proofs.BasicTest.{slot_below}
use Rattle.crn_tab.proofs.RowVector.{row_of}
use Rattle.crn_tab.proofs.Signs.{one_row, some_own}
use Rattle.crn_tab.proofs.Columns.{cancel_left}
use Rattle.crn_tab.proofs.ColumnVector.{meets}

-- from x b + d a = 0 and num d = - x den: den a = num b
down_column : (x d a b num den : ℤ) → d ≢ pos 0 → x *ℤ b +ℤ d *ℤ a ≡ pos 0 → num *ℤ d ≡ neg_ℤ x *ℤ den → den *ℤ a ≡ num *ℤ b
down_column x d a b num den ne e f =
    let first : d *ℤ (den *ℤ a) ≡ den *ℤ (d *ℤ a) = left-comm d den a in
    let negated : d *ℤ a ≡ neg_ℤ (x *ℤ b) = omega (arith, ints, e) in
    let second : den *ℤ (d *ℤ a) ≡ neg_ℤ (den *ℤ (x *ℤ b)) = ap (λ (t : ℤ). den *ℤ t) negated ∙ mul-neg den (x *ℤ b) in
    let third : d *ℤ (num *ℤ b) ≡ b *ℤ (num *ℤ d) = left-comm d num b ∙ ap (λ (t : ℤ). num *ℤ t) (*ℤ_comm d b) ∙ left-comm num b d in
    let fourth : b *ℤ (num *ℤ d) ≡ neg_ℤ (b *ℤ (x *ℤ den)) = ap (λ (t : ℤ). b *ℤ t) (f ∙ neg-mul x den) ∙ mul-neg b (x *ℤ den) in
    let fifth : b *ℤ (x *ℤ den) ≡ den *ℤ (x *ℤ b) = ap (λ (t : ℤ). b *ℤ t) (*ℤ_comm x den) ∙ left-comm b den x ∙ ap (λ (t : ℤ). den *ℤ t) (*ℤ_comm b x) in
    cancel_left d (den *ℤ a) (num *ℤ b) ne (omega (arith, ints, first, second, third, fourth, fifth))

-- from w x = d v and num d = - x den: den v = - (num w)
along_row : (x d w v num den : ℤ) → d ≢ pos 0 → w *ℤ x ≡ d *ℤ v → num *ℤ d ≡ neg_ℤ x *ℤ den → den *ℤ v ≡ neg_ℤ (num *ℤ w)
along_row x d w v num den ne e f =
    let first : d *ℤ (den *ℤ v) ≡ den *ℤ (w *ℤ x) = left-comm d den v ∙ ap (λ (t : ℤ). den *ℤ t) (sym e) in
    let second : d *ℤ neg_ℤ (num *ℤ w) ≡ neg_ℤ (d *ℤ (num *ℤ w)) = mul-neg d (num *ℤ w) in
    let third : d *ℤ (num *ℤ w) ≡ w *ℤ (num *ℤ d) = left-comm d num w ∙ ap (λ (t : ℤ). num *ℤ t) (*ℤ_comm d w) ∙ left-comm num w d in
    let fourth : w *ℤ (num *ℤ d) ≡ neg_ℤ (w *ℤ (x *ℤ den)) = ap (λ (t : ℤ). w *ℤ t) (f ∙ neg-mul x den) ∙ mul-neg w (x *ℤ den) in
    let fifth : w *ℤ (x *ℤ den) ≡ den *ℤ (w *ℤ x) = ap (λ (t : ℤ). w *ℤ t) (*ℤ_comm x den) ∙ left-comm w den x in
    cancel_left d (den *ℤ v) (neg_ℤ (num *ℤ w)) ne (omega (arith, ints, first, second, third, fourth, fifth))

-- what the fraction of the two entries says of all named vectors
pub record TellsHow (a : Mat) (basis : List ℕ) (row col : ℕ) (num den : ℤ) : Type 0 where
  pub columns : (v : List ℤ) → IsNamedColumn a basis col v → den *ℤ entry v row ≡ num *ℤ entry v col
  pub rows : (w : List ℤ) → IsNamedRow a basis row w → den *ℤ entry w col ≡ neg_ℤ (num *ℤ entry w row)
  pub some : num ≢ pos 0 → (w : List ℤ) → IsNamed a basis row w → entry w col ≢ pos 0

pub tells : (a : Mat) (at order : List ℕ) (rows : List ℤ) (row col : ℕ) (num den : ℤ) → IsTableau a at order rows → row < width a → ¬ IsIn row (basis_of a.cols at) → IsIn col (basis_of a.cols at)
    → num *ℤ entry (row_at (a.cols + 1) rows (slice_index at row - a.cols)) a.cols ≡ neg_ℤ (entry (row_at (a.cols + 1) rows (slice_index at row - a.cols)) (slice_index at col)) *ℤ den
    → TellsHow a (basis_of a.cols at) row col num den
tells a at order rows row col num den t lt out member e =
    let n = a.cols in
    let i = slice_index at row - n in
    let kept = row_at (n + 1) rows i in
    let basis = basis_of n at in
    let h = row_of a at order rows row t lt out in
    let own : slice_index at row ≡ n + i = omega (arith, h.low) in
    let d_some : entry kept n ≢ pos 0 = λ z. omega (arith, ints, z, (t.each i h.i_lt).positive) in
    let is_basis : IsBasis a basis = rows_make_basis a at order t.wide t.placed (λ j j_lt. (row_at (n + 1) rows j, t.each j j_lt)) in
    let own_row : IsNamedRow a basis row (spread n i kept at) = elim h.named.named as (λ _. IsNamedRow a basis row (spread n i kept at)) [ inl c ↦ absurd (out c.member) | inr r ↦ r ] in
    let at_row : entry (spread n i kept at) row ≡ entry kept n = at_own n (width a) at order i kept row t.placed lt own in
    let at_col : entry (spread n i kept at) col ≡ entry kept (slice_index at col) =
    entry-spread n i kept at col (omega (arith, is_basis.below col member, t.placed.at_long)) ∙ slot_basic n i kept (slice_index at col) (slot_below n at col member) in
    let by_rows : (w : List ℤ) → IsNamedRow a basis row w → den *ℤ entry w col ≡ neg_ℤ (num *ℤ entry w row) = λ w named.
    let both : entry w row *ℤ entry kept (slice_index at col) ≡ entry kept n *ℤ entry w col =
    ap (λ (x : ℤ). entry w row *ℤ x) (sym at_col) ∙ one_row a basis row (spread n i kept at) w t.wide is_basis own_row named col ∙ ap (λ (x : ℤ). x *ℤ entry w col) at_row in
    along_row (entry kept (slice_index at col)) (entry kept n) (entry w row) (entry w col) num den d_some both e in
    record {
      columns = λ v named. down_column (entry kept (slice_index at col)) (entry kept n) (entry v row) (entry v col) num den d_some
          (meets a at order rows col row i v t member lt own h.i_lt named.space named.zero_on_rest) e;
      rows = by_rows;
      some = λ ne w named zero_is. elim named.named [
        | inl c ↦ out c.member
        | inr r ↦
            let product : num *ℤ entry w row ≡ pos 0 =
            (let f : neg_ℤ (num *ℤ entry w row) ≡ pos 0 = sym (by_rows w r) ∙ ap (λ (x : ℤ). den *ℤ x) zero_is ∙ *ℤ-zero den in omega (arith, ints, f)) in
            let none : entry w row ≡ pos 0 = no_zero num (entry w row) product ne in
            omega (arith, some_own a basis row w t.wide is_basis r named.primitive, ap unsigned_abs none)
      ];
    }
