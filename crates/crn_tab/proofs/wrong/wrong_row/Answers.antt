use Rattle.crn_tab.proofs.Prelude.{◌≡◌, ◌<◌, ◌⊎◌, inl, inr, ℕ, List, length, refl, ap, subst, arith, ℤ, slice_index, Pos, width, MayWeigh, kind_at, entry, IsRowOfSign, AreWrongAt, basis_of}
use Rattle.crn_tab.proofs.RowVector.{row_of}
use Rattle.crn_tab.proofs.Scans.{RowRight, kept_is, wrong_more, row_all, row_first, row_first_wrong, row_stepped, row_wrong}
use Rattle.crn_tab.proofs.wrong.wrong_row.Goals as goal

pub overflow_sub-fields : goal.overflow_sub-fields
overflow_sub-fields c =
    let h = row_of c.args.fields.now.matrix.now c.args.fields.now.at.now c.args.fields.now.order.now c.args.fields.now.rows.now c.args.row c.requires.tableau c.requires.inside c.requires.outside in
    omega (arith, h.low, c.cols-n.ensures.count)

pub part-kept-requires-clause-inside : goal.part-kept-requires-clause-inside
part-kept-requires-clause-inside c =
    let h = row_of c.args.fields.now.matrix.now c.args.fields.now.at.now c.args.fields.now.order.now c.args.fields.now.rows.now c.args.row c.requires.tableau c.requires.inside c.requires.outside in
    rw c.cols-n.ensures.count h.inside

pub bounds-kept-n : goal.bounds-kept-n
bounds-kept-n c =
    let h = row_of c.args.fields.now.matrix.now c.args.fields.now.at.now c.args.fields.now.order.now c.args.fields.now.rows.now c.args.row c.requires.tableau c.requires.inside c.requires.outside in
    let is = kept_is c.args.fields.now.matrix.now.cols c.cols-n.result (slice_index c.args.fields.now.at.now c.args.row) c.args.fields.now.rows.now c.part-kept.result.now c.cols-n.ensures.count c.part-kept.ensures in
    omega (arith, h.long, ap (length {A = ℤ}) is, c.cols-n.ensures.count)

pub bounds-kept-s : goal.bounds-kept-s
bounds-kept-s c =
    let h = row_of c.args.fields.now.matrix.now c.args.fields.now.at.now c.args.fields.now.order.now c.args.fields.now.rows.now c.args.row c.requires.tableau c.requires.inside c.requires.outside in
    let is = kept_is c.args.fields.now.matrix.now.cols c.cols-n.result (slice_index c.args.fields.now.at.now c.args.row) c.args.fields.now.rows.now c.part-kept.result.now c.cols-n.ensures.count c.part-kept.ensures in
    omega (arith, h.long, ap (length {A = ℤ}) is, c.cols-n.ensures.count, c.loop-s-test.true)

pub loop-s-init : goal.loop-s-init
loop-s-init c =
    let a = c.args.fields.now.matrix.now in
    let at = c.args.fields.now.at.now in
    let kinds = c.args.kinds.now in
    let level = c.args.level.now in
    let e = c.args.row in
    let is = kept_is a.cols c.cols-n.result (slice_index at e) c.args.fields.now.rows.now c.part-kept.result.now c.cols-n.ensures.count c.part-kept.ensures in
    record {
      low = c.least_wrong-best.ensures.from c.requires.range;
      high = c.least_wrong-best.ensures.lower;
      right = row_first a at c.args.fields.now.order.now c.args.fields.now.rows.now c.part-kept.result.now e c.args.sign kinds level c.args.from c.least_wrong-best.result c.cols-n.result Pos
          c.requires.tableau c.requires.inside c.requires.outside c.requires.kinds is c.cols-n.ensures.count c.least_wrong-best.ensures.right;
      wrong = elim c.least_wrong-best.ensures.wrong as (λ _. (c.least_wrong-best.result ≡ c.args.end) ⊎ AreWrongAt (IsRowOfSign a (basis_of a.cols at) e c.args.sign) MayWeigh kinds level (width a) c.least_wrong-best.result) [
        | inl same ↦ inl same
        | inr new ↦ wrong_more (IsRowOfSign a (basis_of a.cols at) e c.args.sign) MayWeigh kinds level (width a) c.args.end c.args.end c.least_wrong-best.result e (inl refl) c.requires.inside
            (inr (new.0, row_first_wrong a at c.args.fields.now.order.now c.args.fields.now.rows.now c.part-kept.result.now e c.args.sign kinds c.cols-n.result Pos c.requires.tableau c.requires.inside c.requires.outside c.requires.kinds is c.cols-n.ensures.count new.1))
      ];
    }

pub loop-s-preserved : goal.loop-s-preserved
loop-s-preserved c =
    let a = c.args.fields.now.matrix.now in
    let at = c.args.fields.now.at.now in
    let order = c.args.fields.now.order.now in
    let kinds = c.args.kinds.now in
    let level = c.args.level.now in
    let e = c.args.row in
    let s = c.loop-s.s in
    let is = kept_is a.cols c.cols-n.result (slice_index at e) c.args.fields.now.rows.now c.part-kept.result.now c.cols-n.ensures.count c.part-kept.ensures in
    let s_lt : s < a.cols = omega (arith, c.loop-s-test.true, c.cols-n.ensures.count) in
    let next = c.wrong_at-best in
    record {
      low = next.ensures.from c.loop-s.invariant.low;
      high = omega (arith, next.ensures.lower, c.loop-s.invariant.high);
      right = row_stepped a at order c.args.fields.now.rows.now c.part-kept.result.now e c.args.sign kinds level c.args.from c.loop-s.best next.result s Pos
          c.requires.tableau c.requires.inside c.requires.outside c.requires.kinds is s_lt c.loop-s.invariant.right next.ensures.lower next.ensures.right;
      wrong = wrong_more (IsRowOfSign a (basis_of a.cols at) e c.args.sign) MayWeigh kinds level (width a) c.args.end c.loop-s.best next.result (slice_index order s) c.loop-s.invariant.wrong
          (c.requires.tableau.placed.order_below s (omega (arith, s_lt)))
          (elim next.ensures.wrong as (λ _. (next.result ≡ c.loop-s.best) ⊎ ((next.result ≡ slice_index level (slice_index order s)) × ((w : List ℤ) → IsRowOfSign a (basis_of a.cols at) e c.args.sign w → MayWeigh (kind_at kinds (slice_index order s)) (entry w (slice_index order s)) → ⊥))) [
            | inl same ↦ inl same
            | inr new ↦ inr (new.0, row_wrong a at order c.args.fields.now.rows.now c.part-kept.result.now e c.args.sign kinds s Pos c.requires.tableau c.requires.inside c.requires.outside c.requires.kinds is s_lt new.1)
          ]);
    }

pub returns-clause-right : goal.returns-clause-right
returns-clause-right c =
    let a = c.args.fields.now.matrix.now in
    let at = c.args.fields.now.at.now in
    let e = c.args.row in
    let end : c.loop-s.s ≡ a.cols = omega (arith, c.loop-s-test.false, c.loop-s.auto.s-end, c.cols-n.ensures.count) in
    row_all a at c.args.fields.now.order.now c.args.fields.now.rows.now e c.args.sign c.args.kinds.now c.args.level.now c.args.from c.loop-s.best c.requires.tableau c.requires.inside c.requires.outside
    (subst (λ (j : ℕ). RowRight a at c.args.fields.now.order.now e c.args.sign c.args.kinds.now c.args.level.now c.args.from c.loop-s.best j) end c.loop-s.invariant.right)
