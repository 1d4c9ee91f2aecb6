use Rattle.crn_tab.proofs.Prelude.{◌≡◌, ◌+◌, ◌-◌, ◌∙◌, subst, arith, slice_index, w128, to_z-of_z, HasSign, slot_entry, spread, row_at}
use Rattle.crn_tab.proofs.Places.{entry-spread}
use Rattle.crn_tab.proofs.RowVector.{row_of}
use Rattle.crn_tab.proofs.OwnSign.{named_sign, own_positive}
use Rattle.crn_tab.proofs.sign.sign_at.Goals as goal

pub returns : goal.returns
returns c =
    let a = c.args.fields.now.matrix.now in
    let at = c.args.fields.now.at.now in
    let order = c.args.fields.now.order.now in
    let rows = c.args.fields.now.rows.now in
    let k = c.args.row in
    let i = slice_index at k - a.cols in
    let row = row_at (a.cols + 1) rows i in
    let slot = slice_index at c.args.col in
    let own = row_of a at order rows k c.requires.tableau c.requires.inside c.requires.outside in
    let is : c.number_at.result ≡ slot_entry a.cols i row slot = c.number_at.ensures.is (spread a.cols i row at) own.named (own_positive a at order rows k c.requires.tableau c.requires.inside own)
    ∙ entry-spread a.cols i row at c.args.col (omega (arith, c.requires.place, c.requires.tableau.placed.at_long)) in
    let sign : HasSign c.sign_of.result c.number_at.result = subst (HasSign c.sign_of.result) (to_z-of_z w128 c.number_at.result (record { sfits = c.number_at.type_inv })) c.sign_of.ensures in
    named_sign a at order rows k c.args.col c.sign_of.result c.requires.tableau c.requires.inside c.requires.place c.requires.outside (subst (HasSign c.sign_of.result) is sign)
