use Rattle.crn_tab.proofs.Prelude.{◌+◌, ◌-◌, ◌∙◌, ap, subst, arith, slice_index, w128, to_z-of_z, HasSign, slot_entry, row_at}
use Rattle.std.proofs.lemmas.List.{length-set}
use Rattle.crn_tab.proofs.RowVector.{row_of}
use Rattle.crn_tab.proofs.OwnSign.{sign_made, sign_put, row_signed}
use Rattle.crn_tab.proofs.sign.put_row_signs.Goals as goal

pub overflow_sub-i : goal.overflow_sub-i
overflow_sub-i c =
    let h = row_of c.args.fields.now.matrix.now c.args.fields.now.at.now c.args.fields.now.order.now c.args.fields.now.rows.now c.args.row c.requires.tableau c.requires.inside c.requires.outside in
    omega (arith, h.low, c.cols-n.ensures.count)

pub part-kept-requires-clause-inside : goal.part-kept-requires-clause-inside
part-kept-requires-clause-inside c =
    let h = row_of c.args.fields.now.matrix.now c.args.fields.now.at.now c.args.fields.now.order.now c.args.fields.now.rows.now c.args.row c.requires.tableau c.requires.inside c.requires.outside in
    rw c.cols-n.ensures.count h.inside

pub slot_of-requires-clause-long : goal.slot_of-requires-clause-long
slot_of-requires-clause-long c =
    let h = row_of c.args.fields.now.matrix.now c.args.fields.now.at.now c.args.fields.now.order.now c.args.fields.now.rows.now c.args.row c.requires.tableau c.requires.inside c.requires.outside in
    let e = rw c.cols-n.ensures.count at c.part-kept.ensures in
    rw (c.cols-n.ensures.count, e) h.long

pub loop-c-preserved : goal.loop-c-preserved
loop-c-preserved c =
    let a = c.args.fields.now.matrix.now in
    let at = c.args.fields.now.at.now in
    let n = a.cols in
    let j = c.loop-c.c in
    let signs = c.loop-c.signs in
    let i = slice_index at c.args.row - n in
    let row = rw c.cols-n.ensures.count at c.part-kept.ensures in
    let unwrapped = subst (HasSign c.sign_of.result) (to_z-of_z w128 c.slot_of.result (record { sfits = c.slot_of.type_inv })) c.sign_of.ensures in
    let is : HasSign c.sign_of.result (slot_entry n i (row_at (n + 1) c.args.fields.now.rows.now i) (slice_index at j)) =
    sign_made n c.cols-n.result i (slice_index at c.args.row - c.cols-n.result) (slice_index at j) c.part-kept.result.now (row_at (n + 1) c.args.fields.now.rows.now i) c.slot_of.result c.sign_of.result
    c.cols-n.ensures.count (ap (λ m. slice_index at c.args.row - m) c.cols-n.ensures.count) row c.slot_of.ensures unwrapped in
    record {
      count = length-set signs j c.product.result ∙ c.loop-c.invariant.count;
      seen = λ w named. sign_put signs w j c.product.result (omega (arith, c.loop-c-test.true, c.loop-c.invariant.count)) (c.loop-c.invariant.seen w named)
          (row_signed a at c.args.fields.now.order.now c.args.fields.now.rows.now c.args.row j c.sign_of.result c.product.result c.args.sign w c.requires.tableau c.requires.inside (omega (arith, c.loop-c-test.true, c.loop-c.invariant.count, c.requires.room)) c.requires.outside is c.product.ensures named);
    }
