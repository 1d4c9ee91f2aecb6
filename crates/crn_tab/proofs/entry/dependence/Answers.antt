use Rattle.crn_tab.proofs.Prelude.{◌≡◌, ◌+◌, ◌-◌, ◌^◌, ◌<◌, ℕ, List, length, ap, sym, subst, ◌∙◌, arith, ℤ, pos, neg_ℤ, ◌*ℤ◌, ◌≤ℤ◌, slice_index, unsigned_abs, WIDE_ENTRY, Mat, entry, IsIn, width, basis_of, row_at, IsTableau}
use Rattle.crn_tab.proofs.RowVector.{row_of}
use Rattle.crn_tab.proofs.BasisPlace.{has_place}
use Rattle.crn_tab.proofs.Depends.{TellsHow, tells}
use Rattle.crn_tab.proofs.entry.dependence.Goals as goal

-- the part of the rows that the code reads
record Reads (a : Mat) (at : List ℕ) (rows : List ℤ) (row col n : ℕ) (kept : List ℤ) : Type 0 where
  pub is : kept ≡ row_at (a.cols + 1) rows (slice_index at row - a.cols)
  pub long : length kept ≡ a.cols + 1
  pub small : (k : ℕ) → unsigned_abs (entry kept k) < WIDE_ENTRY
  pub some : pos 1 ≤ℤ entry kept n
  pub col_lt : slice_index at col < a.cols
  pub col_in : col < length at
  pub col_small : col < 2 ^ 20

reads : (a : Mat) (at order : List ℕ) (rows : List ℤ) (row col n : ℕ) (kept : List ℤ) → IsTableau a at order rows → row < width a → ¬ IsIn row (basis_of a.cols at) → IsIn col (basis_of a.cols at)
    → n ≡ a.cols → kept ≡ row_at (n + 1) rows (slice_index at row - n) → Reads a at rows row col n kept
reads a at order rows row col n kept t lt out member e f =
    let h = row_of a at order rows row t lt out in
    let s = has_place a at order rows col t member in
    let R : ℕ → Type 0 = λ k. kept ≡ row_at (k + 1) rows (slice_index at row - k) in
    let is : kept ≡ row_at (a.cols + 1) rows (slice_index at row - a.cols) = subst R e f in
    let S : List ℤ → Type 0 = λ v. (k : ℕ) → unsigned_abs (entry v k) < WIDE_ENTRY in
    let P : List ℤ → Type 0 = λ v. pos 1 ≤ℤ entry v a.cols in
    let Q : ℕ → Type 0 = λ k. pos 1 ≤ℤ entry kept k in
    record {
      is = is;
      long = ap length is ∙ h.long;
      small = subst S (sym is) h.small;
      some = subst Q (sym e) (subst P (sym is) (t.each (slice_index at row - a.cols) h.i_lt).positive);
      col_lt = s.basic;
      col_in = s.inside;
      col_small = s.small;
    }

shown : (a : Mat) (at order : List ℕ) (rows : List ℤ) (row col n : ℕ) (kept : List ℤ) (num den : ℤ) → IsTableau a at order rows → row < width a → ¬ IsIn row (basis_of a.cols at) → IsIn col (basis_of a.cols at)
    → n ≡ a.cols → kept ≡ row_at (n + 1) rows (slice_index at row - n) → num *ℤ entry kept n ≡ neg_ℤ (entry kept (slice_index at col)) *ℤ den → TellsHow a (basis_of a.cols at) row col num den
shown a at order rows row col n kept num den t lt out member e f value =
    let R : ℕ → Type 0 = λ k. kept ≡ row_at (k + 1) rows (slice_index at row - k) in
    let is : kept ≡ row_at (a.cols + 1) rows (slice_index at row - a.cols) = subst R e f in
    let V : List ℤ → ℕ → Type 0 = λ v k. num *ℤ entry v k ≡ neg_ℤ (entry v (slice_index at col)) *ℤ den in
    tells a at order rows row col num den t lt out member (subst (V (row_at (a.cols + 1) rows (slice_index at row - a.cols))) e (subst (λ v. V v n) is value))

pub overflow_sub-fields : goal.overflow_sub-fields
overflow_sub-fields c =
    let h = row_of c.args.fields.now.matrix.now c.args.fields.now.at.now c.args.fields.now.order.now c.args.fields.now.rows.now c.args.row c.requires.tableau c.requires.inside c.requires.outside in
    omega (arith, h.low, c.cols-n.ensures.count)

pub part-kept-requires-clause-inside : goal.part-kept-requires-clause-inside
part-kept-requires-clause-inside c =
    let h = row_of c.args.fields.now.matrix.now c.args.fields.now.at.now c.args.fields.now.order.now c.args.fields.now.rows.now c.args.row c.requires.tableau c.requires.inside c.requires.outside in
    rw c.cols-n.ensures.count h.inside

pub offset_bounds-fields-col : goal.offset_bounds-fields-col
offset_bounds-fields-col c =
    let h = has_place c.args.fields.now.matrix.now c.args.fields.now.at.now c.args.fields.now.order.now c.args.fields.now.rows.now c.args.col c.requires.tableau c.requires.member in
    omega (arith, h.small)

pub bounds-fields-col : goal.bounds-fields-col
bounds-fields-col c = (has_place c.args.fields.now.matrix.now c.args.fields.now.at.now c.args.fields.now.order.now c.args.fields.now.rows.now c.args.col c.requires.tableau c.requires.member).inside

pub bounds-kept-fields : goal.bounds-kept-fields
bounds-kept-fields c =
    let h = reads c.args.fields.now.matrix.now c.args.fields.now.at.now c.args.fields.now.order.now c.args.fields.now.rows.now c.args.row c.args.col c.cols-n.result c.part-kept.result.now c.requires.tableau c.requires.inside c.requires.outside c.requires.member c.cols-n.ensures.count c.part-kept.ensures in
    omega (arith, h.col_lt, h.long)

pub bounds-kept-n : goal.bounds-kept-n
bounds-kept-n c =
    let h = reads c.args.fields.now.matrix.now c.args.fields.now.at.now c.args.fields.now.order.now c.args.fields.now.rows.now c.args.row c.args.col c.cols-n.result c.part-kept.result.now c.requires.tableau c.requires.inside c.requires.outside c.requires.member c.cols-n.ensures.count c.part-kept.ensures in
    omega (arith, h.long, c.cols-n.ensures.count)

pub negative_quotient-requires-clause-num_small : goal.negative_quotient-requires-clause-num_small
negative_quotient-requires-clause-num_small c =
    (reads c.args.fields.now.matrix.now c.args.fields.now.at.now c.args.fields.now.order.now c.args.fields.now.rows.now c.args.row c.args.col c.cols-n.result c.part-kept.result.now c.requires.tableau c.requires.inside c.requires.outside c.requires.member c.cols-n.ensures.count c.part-kept.ensures).small
    (slice_index c.args.fields.now.at.now c.args.col)

pub negative_quotient-requires-clause-some : goal.negative_quotient-requires-clause-some
negative_quotient-requires-clause-some c =
    (reads c.args.fields.now.matrix.now c.args.fields.now.at.now c.args.fields.now.order.now c.args.fields.now.rows.now c.args.row c.args.col c.cols-n.result c.part-kept.result.now c.requires.tableau c.requires.inside c.requires.outside c.requires.member c.cols-n.ensures.count c.part-kept.ensures).some

pub returns-clause-columns : goal.returns-clause-columns
returns-clause-columns c =
    (shown c.args.fields.now.matrix.now c.args.fields.now.at.now c.args.fields.now.order.now c.args.fields.now.rows.now c.args.row c.args.col c.cols-n.result c.part-kept.result.now c.negative_quotient.result.num c.negative_quotient.result.den c.requires.tableau c.requires.inside c.requires.outside c.requires.member c.cols-n.ensures.count c.part-kept.ensures c.negative_quotient.ensures.value).columns

pub returns-clause-rows : goal.returns-clause-rows
returns-clause-rows c =
    (shown c.args.fields.now.matrix.now c.args.fields.now.at.now c.args.fields.now.order.now c.args.fields.now.rows.now c.args.row c.args.col c.cols-n.result c.part-kept.result.now c.negative_quotient.result.num c.negative_quotient.result.den c.requires.tableau c.requires.inside c.requires.outside c.requires.member c.cols-n.ensures.count c.part-kept.ensures c.negative_quotient.ensures.value).rows

pub returns-clause-some : goal.returns-clause-some
returns-clause-some c =
    (shown c.args.fields.now.matrix.now c.args.fields.now.at.now c.args.fields.now.order.now c.args.fields.now.rows.now c.args.row c.args.col c.cols-n.result c.part-kept.result.now c.negative_quotient.result.num c.negative_quotient.result.den c.requires.tableau c.requires.inside c.requires.outside c.requires.member c.cols-n.ensures.count c.part-kept.ensures c.negative_quotient.ensures.value).some
