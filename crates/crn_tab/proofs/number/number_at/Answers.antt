use Rattle.crn_tab.proofs.Prelude.{◌≡◌, ℕ, ◌+◌, ◌-◌, ◌<◌, List, subst, ◌∙◌, arith, to_z, of_z, ℤ, slice_index, w128, to_z-of_z, Mat, IsIn, width, slot_entry, basis_of, row_at, IsTableau}
use Rattle.crn_tab.proofs.RowVector.{row_of}
use Rattle.crn_tab.proofs.OwnNumber.{IsNumber, named_number}
use Rattle.crn_tab.proofs.number.number_at.Goals as goal

pub overflow_sub-i : goal.overflow_sub-i
overflow_sub-i c =
    let h = row_of c.args.fields.now.matrix.now c.args.fields.now.at.now c.args.fields.now.order.now c.args.fields.now.rows.now c.args.row c.requires.tableau c.requires.inside c.requires.outside in
    omega (arith, h.low, c.cols-n.ensures.count)

pub part-requires-clause-inside : goal.part-requires-clause-inside
part-requires-clause-inside c =
    let h = row_of c.args.fields.now.matrix.now c.args.fields.now.at.now c.args.fields.now.order.now c.args.fields.now.rows.now c.args.row c.requires.tableau c.requires.inside c.requires.outside in
    rw c.cols-n.ensures.count h.inside

pub slot_of-requires-clause-long : goal.slot_of-requires-clause-long
slot_of-requires-clause-long c =
    let h = row_of c.args.fields.now.matrix.now c.args.fields.now.at.now c.args.fields.now.order.now c.args.fields.now.rows.now c.args.row c.requires.tableau c.requires.inside c.requires.outside in
    let e = rw c.cols-n.ensures.count at c.part.ensures in
    rw (c.cols-n.ensures.count, e) h.long

-- what the code reads is the entry
shown : (a : Mat) (at order : List ℕ) (rows : List ℤ) (k j n : ℕ) (part : List ℤ) (x : ℤ) → IsTableau a at order rows → k < width a → j < width a → ¬ IsIn k (basis_of a.cols at)
    → n ≡ a.cols → part ≡ row_at (n + 1) rows (slice_index at k - n) → x ≡ slot_entry n (slice_index at k - n) part (slice_index at j) → IsNumber a (basis_of a.cols at) k j x
shown a at order rows k j n part x t lt j_lt out e f h =
    let R : ℕ → Type 0 = λ m. x ≡ slot_entry m (slice_index at k - m) (row_at (m + 1) rows (slice_index at k - m)) (slice_index at j) in
    let P : List ℤ → Type 0 = λ v. x ≡ slot_entry n (slice_index at k - n) v (slice_index at j) in
    named_number a at order rows k j x t lt j_lt out (subst R e (subst P f h))

pub returns-clause-is : goal.returns-clause-is
returns-clause-is c =
    let read : to_z w128 (of_z w128 c.slot_of.result) ≡ c.slot_of.result = to_z-of_z w128 c.slot_of.result (record { sfits = c.slot_of.type_inv }) in
    (shown c.args.fields.now.matrix.now c.args.fields.now.at.now c.args.fields.now.order.now c.args.fields.now.rows.now c.args.row c.args.col c.cols-n.result c.part.result.now (to_z w128 (of_z w128 c.slot_of.result)) c.requires.tableau c.requires.inside c.requires.place c.requires.outside c.cols-n.ensures.count c.part.ensures (read ∙ c.slot_of.ensures)).is

pub returns-clause-small : goal.returns-clause-small
returns-clause-small c =
    let read : to_z w128 (of_z w128 c.slot_of.result) ≡ c.slot_of.result = to_z-of_z w128 c.slot_of.result (record { sfits = c.slot_of.type_inv }) in
    (shown c.args.fields.now.matrix.now c.args.fields.now.at.now c.args.fields.now.order.now c.args.fields.now.rows.now c.args.row c.args.col c.cols-n.result c.part.result.now (to_z w128 (of_z w128 c.slot_of.result)) c.requires.tableau c.requires.inside c.requires.place c.requires.outside c.cols-n.ensures.count c.part.ensures (read ∙ c.slot_of.ensures)).small
