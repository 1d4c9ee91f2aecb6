use Rattle.crn_tab.proofs.Prelude.{◌≡◌, ◌<◌, ◌-◌, ℕ, List, length, ap, sym, subst, ◌∙◌, arith, ℤ, slice_index, ints, Pos, entry, is_signed, any_default, basis_of}
use Rattle.crn_tab.proofs.RowVector.{row_of}
use Rattle.crn_tab.proofs.Scans.{kept_is}
use Rattle.crn_tab.proofs.CutScans.{NoneCounts, counts_more, none_counts, counts_own, counts_slot}
use Rattle.crn_tab.proofs.row_cuts.some_counts.Goals as goal

pub overflow_sub-fields : goal.overflow_sub-fields
overflow_sub-fields c =
    let h = row_of c.args.fields.now.matrix.now c.args.fields.now.at.now c.args.fields.now.order.now c.args.fields.now.rows.now c.args.row c.requires.tableau c.requires.inside c.requires.outside in
    omega (arith, h.low, c.cols-n.ensures.count)

pub part-kept-requires-clause-inside : goal.part-kept-requires-clause-inside
part-kept-requires-clause-inside c =
    let h = row_of c.args.fields.now.matrix.now c.args.fields.now.at.now c.args.fields.now.order.now c.args.fields.now.rows.now c.args.row c.requires.tableau c.requires.inside c.requires.outside in
    rw c.cols-n.ensures.count h.inside

pub bounds-kept-n : goal.bounds-kept-n
bounds-kept-n c =
    let h = row_of c.args.fields.now.matrix.now c.args.fields.now.at.now c.args.fields.now.order.now c.args.fields.now.rows.now c.args.row c.requires.tableau c.requires.inside c.requires.outside in
    let is = kept_is c.args.fields.now.matrix.now.cols c.cols-n.result (slice_index c.args.fields.now.at.now c.args.row) c.args.fields.now.rows.now c.part-kept.result.now c.cols-n.ensures.count c.part-kept.ensures in
    omega (arith, h.long, ap (length {A = ℤ}) is, c.cols-n.ensures.count)

pub bounds-kept-s : goal.bounds-kept-s
bounds-kept-s c =
    let h = row_of c.args.fields.now.matrix.now c.args.fields.now.at.now c.args.fields.now.order.now c.args.fields.now.rows.now c.args.row c.requires.tableau c.requires.inside c.requires.outside in
    let is = kept_is c.args.fields.now.matrix.now.cols c.cols-n.result (slice_index c.args.fields.now.at.now c.args.row) c.args.fields.now.rows.now c.part-kept.result.now c.cols-n.ensures.count c.part-kept.ensures in
    omega (arith, h.long, ap (length {A = ℤ}) is, c.cols-n.ensures.count, c.loop-s-test.true)

pub returns-then-is_weight-clause-yes : goal.returns-then-is_weight-clause-yes
returns-then-is_weight-clause-yes c = λ _ sign ne w named.
    counts_own c.args.fields.now.matrix.now (basis_of c.args.fields.now.matrix.now.cols c.args.fields.now.at.now) c.args.row c.args.kinds.now Pos sign w c.requires.kinds c.requires.inside (c.is_weight.ensures.yes c.if-is_weight.true).0 ne named

pub loop-s-preserved : goal.loop-s-preserved
loop-s-preserved c =
    let s_lt : c.loop-s.s < c.args.fields.now.matrix.now.cols = omega (arith, c.loop-s-test.true, c.cols-n.ensures.count) in
    counts_more c.args.fields.now.matrix.now c.args.fields.now.at.now c.args.fields.now.order.now c.args.fields.now.rows.now c.part-kept.result.now c.args.row c.args.kinds.now c.loop-s.s Pos c.requires.tableau c.requires.kinds
    (kept_is c.args.fields.now.matrix.now.cols c.cols-n.result (slice_index c.args.fields.now.at.now c.args.row) c.args.fields.now.rows.now c.part-kept.result.now c.cols-n.ensures.count c.part-kept.ensures) s_lt c.loop-s.invariant (c.is_weight-in-loop-s.ensures.no c.if-is_weight-2.false)

pub returns-then-is_weight-2-clause-yes : goal.returns-then-is_weight-2-clause-yes
returns-then-is_weight-2-clause-yes c = λ _ sign ne w named.
    let s_lt : c.loop-s.s < c.args.fields.now.matrix.now.cols = omega (arith, c.loop-s-test.true, c.cols-n.ensures.count) in
    let here = c.is_weight-in-loop-s.ensures.yes c.if-is_weight-2.true in
    counts_slot c.args.fields.now.matrix.now c.args.fields.now.at.now c.args.fields.now.order.now c.args.fields.now.rows.now c.part-kept.result.now c.args.row c.loop-s.s c.args.kinds.now Pos sign w c.requires.tableau c.requires.inside c.requires.outside c.requires.kinds
    (kept_is c.args.fields.now.matrix.now.cols c.cols-n.result (slice_index c.args.fields.now.at.now c.args.row) c.args.fields.now.rows.now c.part-kept.result.now c.cols-n.ensures.count c.part-kept.ensures) s_lt here.0 here.1 ne named

pub returns-clause-no : goal.returns-clause-no
returns-clause-no c = λ _ w named k k_lt signed.
    let a = c.args.fields.now.matrix.now in
    let end : c.loop-s.s ≡ a.cols = omega (arith, c.loop-s-test.false, c.loop-s.auto.s-end, c.cols-n.ensures.count) in
    let is = kept_is c.args.fields.now.matrix.now.cols c.cols-n.result (slice_index c.args.fields.now.at.now c.args.row) c.args.fields.now.rows.now c.part-kept.result.now c.cols-n.ensures.count c.part-kept.ensures in
    let h = row_of a c.args.fields.now.at.now c.args.fields.now.order.now c.args.fields.now.rows.now c.args.row c.requires.tableau c.requires.inside c.requires.outside in
    none_counts a c.args.fields.now.at.now c.args.fields.now.order.now c.args.fields.now.rows.now c.args.row c.args.kinds.now c.requires.tableau c.requires.inside c.requires.outside
    (subst (λ (j : ℕ). NoneCounts a c.args.fields.now.at.now c.args.fields.now.order.now c.args.fields.now.rows.now c.args.row c.args.kinds.now j) end c.loop-s.invariant)
    (λ mine.
    let none = c.is_weight.ensures.no c.if-is_weight.false (ap is_signed (any_default Pos _ c.args.kinds.now c.args.row (omega (arith, c.requires.inside, c.requires.kinds))) ∙ mine) in
    omega (
      arith,
      ints,
      (c.requires.tableau.each (slice_index c.args.fields.now.at.now c.args.row - a.cols) h.i_lt).positive,
      sym (ap (λ (r : List ℤ). entry r a.cols) is) ∙ ap (entry c.part-kept.result.now) (sym c.cols-n.ensures.count) ∙ none,
    )) w named k k_lt signed
