use Rattle.crn_tab.proofs.Prelude.{◌≡◌, ℕ, ◌+◌, ◌-◌, List, ap, sym, subst, arith, ℤ, slice_index, InDualSpace, IsElementary, IsNamed, AreSmall, spread, basis_of, row_at}
use Rattle.crn_tab.proofs.Columns.{row_elementary}
use Rattle.crn_tab.proofs.RowVector.{row_of}
use Rattle.crn_tab.proofs.row.put_row_vector.Goals as goal

pub overflow_sub-i : goal.overflow_sub-i
overflow_sub-i c =
    let h = row_of c.args.fields.now.matrix.now c.args.fields.now.at.now c.args.fields.now.order.now c.args.fields.now.rows.now c.args.row c.requires.tableau c.requires.inside c.requires.outside in
    omega (arith, h.low, c.cols-n.ensures.count)

pub part-requires-clause-inside : goal.part-requires-clause-inside
part-requires-clause-inside c =
    let h = row_of c.args.fields.now.matrix.now c.args.fields.now.at.now c.args.fields.now.order.now c.args.fields.now.rows.now c.args.row c.requires.tableau c.requires.inside c.requires.outside in
    rw c.cols-n.ensures.count h.inside

pub put_spread-requires-clause-long : goal.put_spread-requires-clause-long
put_spread-requires-clause-long c =
    let h = row_of c.args.fields.now.matrix.now c.args.fields.now.at.now c.args.fields.now.order.now c.args.fields.now.rows.now c.args.row c.requires.tableau c.requires.inside c.requires.outside in
    let e = rw c.cols-n.ensures.count at c.part.ensures in
    rw (c.cols-n.ensures.count, e) h.long

-- the vector that the code makes
made : (n n' i i' : ℕ) (part row : List ℤ) (at : List ℕ) (items : List ℤ) → n' ≡ n → i' ≡ i → part ≡ row → items ≡ spread n' i' part at → items ≡ spread n i row at
made n n' i i' part row at items e f g h =
    let A : ℕ → Type 0 = λ k. items ≡ spread k i' part at in
    let B : ℕ → Type 0 = λ k. items ≡ spread n k part at in
    let C : List ℤ → Type 0 = λ v. items ≡ spread n i v at in
    subst C g (subst B f (subst A e h))

pub returns-clause-named : goal.returns-clause-named
returns-clause-named c =
    let h = row_of c.args.fields.now.matrix.now c.args.fields.now.at.now c.args.fields.now.order.now c.args.fields.now.rows.now c.args.row c.requires.tableau c.requires.inside c.requires.outside in
    let n = c.args.fields.now.matrix.now.cols in
    let i = slice_index c.args.fields.now.at.now c.args.row - n in
    let row = rw c.cols-n.ensures.count at c.part.ensures in
    let is : c.put_spread.new.into ≡ spread n i (row_at (n + 1) c.args.fields.now.rows.now i) c.args.fields.now.at.now =
    made n c.cols-n.result i (slice_index c.args.fields.now.at.now c.args.row - c.cols-n.result) c.part.result.now (row_at (n + 1) c.args.fields.now.rows.now i) c.args.fields.now.at.now c.put_spread.new.into
    c.cols-n.ensures.count (ap (λ m. slice_index c.args.fields.now.at.now c.args.row - m) c.cols-n.ensures.count) row c.put_spread.ensures in
    let N : List ℤ → Type 0 = λ v. IsNamed c.args.fields.now.matrix.now (basis_of n c.args.fields.now.at.now) c.args.row v in
    subst N (sym is) h.named

pub returns-clause-elementary : goal.returns-clause-elementary
returns-clause-elementary c =
    let h = row_of c.args.fields.now.matrix.now c.args.fields.now.at.now c.args.fields.now.order.now c.args.fields.now.rows.now c.args.row c.requires.tableau c.requires.inside c.requires.outside in
    let n = c.args.fields.now.matrix.now.cols in
    let i = slice_index c.args.fields.now.at.now c.args.row - n in
    let row = rw c.cols-n.ensures.count at c.part.ensures in
    let is : c.put_spread.new.into ≡ spread n i (row_at (n + 1) c.args.fields.now.rows.now i) c.args.fields.now.at.now =
    made n c.cols-n.result i (slice_index c.args.fields.now.at.now c.args.row - c.cols-n.result) c.part.result.now (row_at (n + 1) c.args.fields.now.rows.now i) c.args.fields.now.at.now c.put_spread.new.into
    c.cols-n.ensures.count (ap (λ m. slice_index c.args.fields.now.at.now c.args.row - m) c.cols-n.ensures.count) row c.put_spread.ensures in
    let N : List ℤ → Type 0 = λ v. IsElementary (InDualSpace c.args.fields.now.matrix.now) v in
    subst N (sym is) (row_elementary c.args.fields.now.matrix.now (basis_of n c.args.fields.now.at.now) c.args.row (spread n i (row_at (n + 1) c.args.fields.now.rows.now i) c.args.fields.now.at.now) c.requires.tableau.wide c.requires.outside h.named)

pub returns-clause-small : goal.returns-clause-small
returns-clause-small c =
    let h = row_of c.args.fields.now.matrix.now c.args.fields.now.at.now c.args.fields.now.order.now c.args.fields.now.rows.now c.args.row c.requires.tableau c.requires.inside c.requires.outside in
    let n = c.args.fields.now.matrix.now.cols in
    let i = slice_index c.args.fields.now.at.now c.args.row - n in
    let row = rw c.cols-n.ensures.count at c.part.ensures in
    let is : c.put_spread.new.into ≡ spread n i (row_at (n + 1) c.args.fields.now.rows.now i) c.args.fields.now.at.now =
    made n c.cols-n.result i (slice_index c.args.fields.now.at.now c.args.row - c.cols-n.result) c.part.result.now (row_at (n + 1) c.args.fields.now.rows.now i) c.args.fields.now.at.now c.put_spread.new.into
    c.cols-n.ensures.count (ap (λ m. slice_index c.args.fields.now.at.now c.args.row - m) c.cols-n.ensures.count) row c.put_spread.ensures in
    subst AreSmall (sym is) h.bounded
