use Rattle.crn_tab.proofs.Prelude.{◌≡◌, ◌<◌, ◌⊎◌, inl, inr, ℕ, ◌+◌, List, length, refl, ap, subst, arith, ℤ, slice_index, Pos, width, entry, MayTake, kind_at, IsColumnOfSign, AreWrongAt, basis_of, row_at}
use Rattle.crn_tab.proofs.BasisPlace.{has_place}
use Rattle.crn_tab.proofs.Scans.{ColumnRight, wrong_more, column_all, column_first, column_first_wrong, column_stepped, column_wrong}
use Rattle.crn_tab.proofs.wrong.scan_column.Goals as goal

pub offset_bounds-fields-col : goal.offset_bounds-fields-col
offset_bounds-fields-col c =
    let h = has_place c.args.fields.now.matrix.now c.args.fields.now.at.now c.args.fields.now.order.now c.args.fields.now.rows.now c.args.col c.requires.tableau c.requires.member in
    omega (arith, h.small)

pub bounds-fields-col : goal.bounds-fields-col
bounds-fields-col c = (has_place c.args.fields.now.matrix.now c.args.fields.now.at.now c.args.fields.now.order.now c.args.fields.now.rows.now c.args.col c.requires.tableau c.requires.member).inside

pub bounds-kinds-col : goal.bounds-kinds-col
bounds-kinds-col c =
    let h = has_place c.args.fields.now.matrix.now c.args.fields.now.at.now c.args.fields.now.order.now c.args.fields.now.rows.now c.args.col c.requires.tableau c.requires.member in
    omega (arith, h.inside, c.requires.tableau.placed.at_long, c.requires.kinds)

pub offset_bounds-level-col : goal.offset_bounds-level-col
offset_bounds-level-col c =
    let h = has_place c.args.fields.now.matrix.now c.args.fields.now.at.now c.args.fields.now.order.now c.args.fields.now.rows.now c.args.col c.requires.tableau c.requires.member in
    omega (arith, h.small)

pub bounds-level-col : goal.bounds-level-col
bounds-level-col c =
    let h = has_place c.args.fields.now.matrix.now c.args.fields.now.at.now c.args.fields.now.order.now c.args.fields.now.rows.now c.args.col c.requires.tableau c.requires.member in
    omega (arith, h.inside, c.requires.tableau.placed.at_long, c.requires.level)

pub loop-i-init : goal.loop-i-init
loop-i-init c =
    let a = c.args.fields.now.matrix.now in
    let at = c.args.fields.now.at.now in
    let kinds = c.args.kinds.now in
    let level = c.args.level.now in
    let b = c.args.col in
    let sign = c.args.sign in
    let h = has_place a at c.args.fields.now.order.now c.args.fields.now.rows.now b c.requires.tableau c.requires.member in
    let b_lt : b < length kinds = omega (arith, h.inside, c.requires.tableau.placed.at_long, c.requires.kinds) in
    let first = c.least_refused-best in
    record {
      low = first.ensures.from c.requires.range;
      high = first.ensures.lower;
      right = column_first a at c.args.fields.now.order.now b sign kinds level c.args.from first.result Pos b_lt first.ensures.right;
      wrong = elim first.ensures.wrong as (λ _. (first.result ≡ c.args.end) ⊎ AreWrongAt (IsColumnOfSign a (basis_of a.cols at) b sign) MayTake kinds level (width a) first.result) [
        | inl same ↦ inl same
        | inr new ↦ wrong_more (IsColumnOfSign a (basis_of a.cols at) b sign) MayTake kinds level (width a) c.args.end c.args.end first.result b (inl refl) (omega (arith, b_lt, c.requires.kinds))
            (inr (new.0, column_first_wrong a at b sign kinds Pos b_lt new.1))
      ];
    }

taken : (n n' i : ℕ) (rows part : List ℤ) → n' ≡ n → part ≡ row_at (n' + 1) rows i → part ≡ row_at (n + 1) rows i
taken n n' i rows part e h = subst (λ (k : ℕ). part ≡ row_at (k + 1) rows i) e h

pub bounds-kept-place : goal.bounds-kept-place
bounds-kept-place c =
    let a = c.args.fields.now.matrix.now in
    let h = has_place a c.args.fields.now.at.now c.args.fields.now.order.now c.args.fields.now.rows.now c.args.col c.requires.tableau c.requires.member in
    let is = taken a.cols c.cols-n.result c.loop-i.i c.args.fields.now.rows.now c.part-kept.result.now c.cols-n.ensures.count c.part-kept.ensures in
    let row = c.requires.tableau.each c.loop-i.i (omega (arith, c.loop-i-test.true, c.rows-m.ensures.count)) in
    omega (arith, h.basic, ap (length {A = ℤ}) is, row.long)

pub loop-i-preserved : goal.loop-i-preserved
loop-i-preserved c =
    let a = c.args.fields.now.matrix.now in
    let at = c.args.fields.now.at.now in
    let order = c.args.fields.now.order.now in
    let kinds = c.args.kinds.now in
    let level = c.args.level.now in
    let b = c.args.col in
    let i = c.loop-i.i in
    let sign = c.args.sign in
    let other = c.opposite-other.result in
    let place = slice_index order (c.cols-n.result + i) in
    let is = taken a.cols c.cols-n.result i c.args.fields.now.rows.now c.part-kept.result.now c.cols-n.ensures.count c.part-kept.ensures in
    let i_lt : i < length a.rows = omega (arith, c.loop-i-test.true, c.rows-m.ensures.count) in
    let place_is : place ≡ slice_index order (a.cols + i) = ap (λ k. slice_index order (k + i)) c.cols-n.ensures.count in
    let next = c.least_refused-best-in-loop-i in
    record {
      low = next.ensures.from c.loop-i.invariant.low;
      high = omega (arith, next.ensures.lower, c.loop-i.invariant.high);
      right = column_stepped a at order c.args.fields.now.rows.now c.part-kept.result.now b sign other kinds level c.args.from c.loop-i.best next.result i place Pos
          c.requires.tableau c.requires.member c.requires.kinds i_lt c.opposite-other.ensures is place_is c.loop-i.invariant.right next.ensures.lower next.ensures.right;
      wrong = wrong_more (IsColumnOfSign a (basis_of a.cols at) b sign) MayTake kinds level (width a) c.args.end c.loop-i.best next.result place c.loop-i.invariant.wrong
          (omega (arith, place_is, c.requires.tableau.placed.order_below (a.cols + i) (omega (arith, i_lt))))
          (elim next.ensures.wrong as (λ _. (next.result ≡ c.loop-i.best) ⊎ ((next.result ≡ slice_index level place) × ((y : List ℤ) → IsColumnOfSign a (basis_of a.cols at) b sign y → MayTake (kind_at kinds place) (entry y place) → ⊥))) [
            | inl same ↦ inl same
            | inr new ↦ inr (new.0, column_wrong a at order c.args.fields.now.rows.now c.part-kept.result.now b sign other kinds i place Pos c.requires.tableau c.requires.member c.requires.kinds i_lt c.opposite-other.ensures is place_is new.1)
          ]);
    }

pub returns-clause-right : goal.returns-clause-right
returns-clause-right c =
    let a = c.args.fields.now.matrix.now in
    let at = c.args.fields.now.at.now in
    let end : c.loop-i.i ≡ length a.rows = omega (arith, c.loop-i-test.false, c.loop-i.auto.i-end, c.rows-m.ensures.count) in
    column_all a at c.args.fields.now.order.now c.args.fields.now.rows.now c.args.col c.args.sign c.args.kinds.now c.args.level.now c.args.from c.loop-i.best c.requires.tableau
    (subst (λ (j : ℕ). ColumnRight a at c.args.fields.now.order.now c.args.col c.args.sign c.args.kinds.now c.args.level.now c.args.from c.loop-i.best j) end c.loop-i.invariant.right)
