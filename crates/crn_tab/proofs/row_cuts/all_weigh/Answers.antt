use Rattle.crn_tab.proofs.Prelude.{◌≡◌, ◌<◌, ℕ, [], length, ap, subst, arith, ℤ, slice_index, Pos}
use Rattle.crn_tab.proofs.RowVector.{row_of}
use Rattle.crn_tab.proofs.Scans.{RowRight, kept_is, row_all, row_first, row_first_wrong, row_stepped, row_wrong}
use Rattle.crn_tab.proofs.row_cuts.all_weigh.Goals as goal

pub overflow_sub-fields : goal.overflow_sub-fields
overflow_sub-fields c =
    let h = row_of c.args.fields.now.matrix.now c.args.fields.now.at.now c.args.fields.now.order.now c.args.fields.now.rows.now c.args.row c.requires.tableau c.requires.inside c.requires.outside in
    omega (arith, h.low, c.cols-n.ensures.count)

pub part-kept-requires-clause-inside : goal.part-kept-requires-clause-inside
part-kept-requires-clause-inside c =
    let h = row_of c.args.fields.now.matrix.now c.args.fields.now.at.now c.args.fields.now.order.now c.args.fields.now.rows.now c.args.row c.requires.tableau c.requires.inside c.requires.outside in
    rw c.cols-n.ensures.count h.inside

pub bounds-kept-n : goal.bounds-kept-n
bounds-kept-n c =
    let h = row_of c.args.fields.now.matrix.now c.args.fields.now.at.now c.args.fields.now.order.now c.args.fields.now.rows.now c.args.row c.requires.tableau c.requires.inside c.requires.outside in
    let is = kept_is c.args.fields.now.matrix.now.cols c.cols-n.result (slice_index c.args.fields.now.at.now c.args.row) c.args.fields.now.rows.now c.part-kept.result.now c.cols-n.ensures.count c.part-kept.ensures in
    omega (arith, h.long, ap (length {A = ℤ}) is, c.cols-n.ensures.count)

pub bounds-kept-s : goal.bounds-kept-s
bounds-kept-s c =
    let h = row_of c.args.fields.now.matrix.now c.args.fields.now.at.now c.args.fields.now.order.now c.args.fields.now.rows.now c.args.row c.requires.tableau c.requires.inside c.requires.outside in
    let is = kept_is c.args.fields.now.matrix.now.cols c.cols-n.result (slice_index c.args.fields.now.at.now c.args.row) c.args.fields.now.rows.now c.part-kept.result.now c.cols-n.ensures.count c.part-kept.ensures in
    omega (arith, h.long, ap (length {A = ℤ}) is, c.cols-n.ensures.count, c.loop-s-test.true)

pub returns-then-not-weighs-clause-no : goal.returns-then-not-weighs-clause-no
returns-then-not-weighs-clause-no c = λ _ w named all.
    row_first_wrong c.args.fields.now.matrix.now c.args.fields.now.at.now c.args.fields.now.order.now c.args.fields.now.rows.now c.part-kept.result.now c.args.row c.args.sign c.args.kinds.now c.cols-n.result Pos c.requires.tableau c.requires.inside c.requires.outside c.requires.kinds
    (kept_is c.args.fields.now.matrix.now.cols c.cols-n.result (slice_index c.args.fields.now.at.now c.args.row) c.args.fields.now.rows.now c.part-kept.result.now c.cols-n.ensures.count c.part-kept.ensures) c.cols-n.ensures.count (c.weighs.ensures.no c.if-not-weighs.true) w named (all c.args.row c.requires.inside)

pub loop-s-init : goal.loop-s-init
loop-s-init c =
    row_first c.args.fields.now.matrix.now c.args.fields.now.at.now c.args.fields.now.order.now c.args.fields.now.rows.now c.part-kept.result.now c.args.row c.args.sign c.args.kinds.now [] 0 1 c.cols-n.result Pos c.requires.tableau c.requires.inside c.requires.outside c.requires.kinds
    (kept_is c.args.fields.now.matrix.now.cols c.cols-n.result (slice_index c.args.fields.now.at.now c.args.row) c.args.fields.now.rows.now c.part-kept.result.now c.cols-n.ensures.count c.part-kept.ensures) c.cols-n.ensures.count (λ y f _ _. c.weighs.ensures.yes c.if-not-weighs.false y f)

pub loop-s-preserved : goal.loop-s-preserved
loop-s-preserved c =
    let s_lt : c.loop-s.s < c.args.fields.now.matrix.now.cols = omega (arith, c.loop-s-test.true, c.cols-n.ensures.count) in
    row_stepped c.args.fields.now.matrix.now c.args.fields.now.at.now c.args.fields.now.order.now c.args.fields.now.rows.now c.part-kept.result.now c.args.row c.args.sign c.args.kinds.now [] 0 1 1 c.loop-s.s Pos c.requires.tableau c.requires.inside c.requires.outside c.requires.kinds
    (kept_is c.args.fields.now.matrix.now.cols c.cols-n.result (slice_index c.args.fields.now.at.now c.args.row) c.args.fields.now.rows.now c.part-kept.result.now c.cols-n.ensures.count c.part-kept.ensures) s_lt c.loop-s.invariant (omega arith) (λ y f _ _. c.weighs-in-loop-s.ensures.yes c.if-not-weighs-2.false y f)

pub returns-then-not-weighs-2-clause-no : goal.returns-then-not-weighs-2-clause-no
returns-then-not-weighs-2-clause-no c = λ _ w named all.
    let s_lt : c.loop-s.s < c.args.fields.now.matrix.now.cols = omega (arith, c.loop-s-test.true, c.cols-n.ensures.count) in
    row_wrong c.args.fields.now.matrix.now c.args.fields.now.at.now c.args.fields.now.order.now c.args.fields.now.rows.now c.part-kept.result.now c.args.row c.args.sign c.args.kinds.now c.loop-s.s Pos c.requires.tableau c.requires.inside c.requires.outside c.requires.kinds
    (kept_is c.args.fields.now.matrix.now.cols c.cols-n.result (slice_index c.args.fields.now.at.now c.args.row) c.args.fields.now.rows.now c.part-kept.result.now c.cols-n.ensures.count c.part-kept.ensures) s_lt (c.weighs-in-loop-s.ensures.no c.if-not-weighs-2.true) w named
    (all (slice_index c.args.fields.now.order.now c.loop-s.s) (c.requires.tableau.placed.order_below c.loop-s.s (omega (arith, s_lt))))

pub returns-clause-yes : goal.returns-clause-yes
returns-clause-yes c = λ _ w named k k_lt.
    let end : c.loop-s.s ≡ c.args.fields.now.matrix.now.cols = omega (arith, c.loop-s-test.false, c.loop-s.auto.s-end, c.cols-n.ensures.count) in
    row_all c.args.fields.now.matrix.now c.args.fields.now.at.now c.args.fields.now.order.now c.args.fields.now.rows.now c.args.row c.args.sign c.args.kinds.now [] 0 1 c.requires.tableau c.requires.inside c.requires.outside
    (subst (λ (j : ℕ). RowRight c.args.fields.now.matrix.now c.args.fields.now.at.now c.args.fields.now.order.now c.args.row c.args.sign c.args.kinds.now [] 0 1 j) end c.loop-s.invariant) w named k k_lt (omega arith) (omega arith)
