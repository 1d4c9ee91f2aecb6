-- The row of a coordinate outside the basis.
use Rattle.crn_tab.proofs.Prelude.{◌≡◌, ℕ, ◌+◌, ◌-◌, ◌*◌, ◌<◌, ◌≤◌, List, length, ap, subst, ◌∙◌, arith, lit<, ℤ, slice_index, suc-mul, mul-le-mul_right, WIDE_ENTRY, Mat, IsIn, width, IsNamed, AreSmall, spread, basis_of, row_at, IsTableau}
use Rattle.crn_tab.proofs.Bases.{outside_slot, rows_make_basis, row_is_named}
use Rattle.crn_tab.proofs.Finish.{below_row, spread_small}

pub record IsRowOf (a : Mat) (at : List ℕ) (rows : List ℤ) (k i : ℕ) : Type 0 where
  pub low : a.cols ≤ slice_index at k
  pub i_lt : i < length a.rows
  pub inside : i * (a.cols + 1) + (a.cols + 1) ≤ length rows
  pub long : length (row_at (a.cols + 1) rows i) ≡ a.cols + 1
  pub small : AreSmall (row_at (a.cols + 1) rows i)
  pub named : IsNamed a (basis_of a.cols at) k (spread a.cols i (row_at (a.cols + 1) rows i) at)
  pub bounded : AreSmall (spread a.cols i (row_at (a.cols + 1) rows i) at)

pub row_of : (a : Mat) (at order : List ℕ) (rows : List ℤ) (k : ℕ) → IsTableau a at order rows → k < width a → ¬ IsIn k (basis_of a.cols at) → IsRowOf a at rows k (slice_index at k - a.cols)
row_of a at order rows k t lt out =
    let n = a.cols in
    let i = slice_index at k - n in
    let low : n ≤ slice_index at k = outside_slot n (width a) at order k t.placed lt out in
    let i_lt : i < length a.rows = omega (arith, low, t.placed.at_below k lt) in
    let own : slice_index order (n + i) ≡ k = ap (slice_index order) (let e : n + i ≡ slice_index at k = omega arith in e) ∙ t.placed.there k lt in
    let basis = rows_make_basis a at order t.wide t.placed (λ j j_lt. (row_at (n + 1) rows j, t.each j j_lt)) in
    let N : ℕ → Type 0 = λ c. IsNamed a (basis_of n at) c (spread n i (row_at (n + 1) rows i) at) in
    record {
      low = low;
      i_lt = i_lt;
      inside = omega (arith, t.long, suc-mul i (n + 1), mul-le-mul_right (n + 1) (let le : i + 1 ≤ length a.rows = omega arith in le));
      long = (t.each i i_lt).long;
      small = below_row WIDE_ENTRY (n + 1) i rows (lit< tt) t.small;
      named = subst N own (row_is_named a at order i (row_at (n + 1) rows i) t.placed i_lt basis (t.each i i_lt));
      bounded = spread_small n i (row_at (n + 1) rows i) at (below_row WIDE_ENTRY (n + 1) i rows (lit< tt) t.small);
    }
