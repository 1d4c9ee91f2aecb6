-- Where a coordinate of the basis is.
use Rattle.crn_tab.proofs.Prelude.{◌+◌, ◌^◌, ◌<◌, ℕ, List, length, arith, ℤ, slice_index, Mat, IsIn, basis_of, row_at, IsTableau}
use Rattle.crn_tab.proofs.BasicTest.{slot_below}
use Rattle.crn_tab.proofs.Bases.{rows_make_basis}

-- where the coordinate is
pub record HasPlace (a : Mat) (at : List ℕ) (col : ℕ) : Type 0 where
  pub inside : col < length at
  pub small : col < 2 ^ 20
  pub basic : slice_index at col < a.cols

pub has_place : (a : Mat) (at order : List ℕ) (rows : List ℤ) (col : ℕ) → IsTableau a at order rows → IsIn col (basis_of a.cols at) → HasPlace a at col
has_place a at order rows col t member =
    let basis = rows_make_basis a at order t.wide t.placed (λ j lt. (row_at (a.cols + 1) rows j, t.each j lt)) in
    record {
      inside = omega (arith, basis.below col member, t.placed.at_long);
      small = omega (arith, basis.below col member, t.few);
      basic = slot_below a.cols at col member;
    }
