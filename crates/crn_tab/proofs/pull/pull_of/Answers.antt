use Rattle.crn_tab.proofs.Prelude.{length, ap, arith, ℤ, slice_index}
use Rattle.crn_tab.proofs.RowVector.{row_of}
use Rattle.crn_tab.proofs.Scans.{kept_is}
use Rattle.crn_tab.proofs.pull.pull_of.Goals as goal

pub overflow_sub-fields : goal.overflow_sub-fields
overflow_sub-fields c =
    let h = row_of c.args.fields.now.matrix.now c.args.fields.now.at.now c.args.fields.now.order.now c.args.fields.now.rows.now c.args.row c.requires.tableau c.requires.inside c.requires.outside in
    omega (arith, h.low, c.cols-n.ensures.count)

pub part-kept-requires-clause-inside : goal.part-kept-requires-clause-inside
part-kept-requires-clause-inside c =
    let h = row_of c.args.fields.now.matrix.now c.args.fields.now.at.now c.args.fields.now.order.now c.args.fields.now.rows.now c.args.row c.requires.tableau c.requires.inside c.requires.outside in
    rw c.cols-n.ensures.count h.inside

pub bounds-kept-n : goal.bounds-kept-n
bounds-kept-n c =
    let h = row_of c.args.fields.now.matrix.now c.args.fields.now.at.now c.args.fields.now.order.now c.args.fields.now.rows.now c.args.row c.requires.tableau c.requires.inside c.requires.outside in
    let is = kept_is c.args.fields.now.matrix.now.cols c.cols-n.result (slice_index c.args.fields.now.at.now c.args.row) c.args.fields.now.rows.now c.part-kept.result.now c.cols-n.ensures.count c.part-kept.ensures in
    omega (arith, h.long, ap (length {A = ℤ}) is, c.cols-n.ensures.count)

pub bounds-kept-s : goal.bounds-kept-s
bounds-kept-s c =
    let h = row_of c.args.fields.now.matrix.now c.args.fields.now.at.now c.args.fields.now.order.now c.args.fields.now.rows.now c.args.row c.requires.tableau c.requires.inside c.requires.outside in
    let is = kept_is c.args.fields.now.matrix.now.cols c.cols-n.result (slice_index c.args.fields.now.at.now c.args.row) c.args.fields.now.rows.now c.part-kept.result.now c.cols-n.ensures.count c.part-kept.ensures in
    omega (arith, h.long, ap (length {A = ℤ}) is, c.cols-n.ensures.count, c.loop-s-test.true)
