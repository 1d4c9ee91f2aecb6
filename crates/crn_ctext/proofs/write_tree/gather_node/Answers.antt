use Rattle.crn_ctext.proofs.Prelude.{err_from_is_err_and}
use Rattle.crn_ctext.proofs.Pieces.{Gathers-all, Gathers-prefix, gathers_as}
use Rattle.crn_ctext.proofs.WrittenLeaves.{cuta_line, cutb_line}
use Rattle.crn_ctext.proofs.write_tree.gather_node.Goals as goal

pub returns-in_err-gather_cut-in-CutA-clause-gathers : goal.returns-in_err-gather_cut-in-CutA-clause-gathers
returns-in_err-gather_cut-in-CutA-clause-gathers g c =
    let p = err_from_is_err_and c.from_residual.result c.from_residual.ensures.1 in
    let cut = rw c.as_slice.ensures at c.in_err-gather_cut-in-CutA.ensures in
    let gathers = rw c.deref.ensures at cut in
    rw c.in-CutA.is (gathers_as _ (cuta_line c.in-CutA.list.value.list c.args.leaf.now c.next_leaf-number.result.0 c.next_leaf-number.ensures.first) (Gathers-prefix p.1 gathers.prefix))

pub returns-in_err-gather_cut-in-CutB-clause-gathers : goal.returns-in_err-gather_cut-in-CutB-clause-gathers
returns-in_err-gather_cut-in-CutB-clause-gathers g c =
    let r = c.from_residual-in_err-gather_cut-in-CutB in
    let p = err_from_is_err_and r.result r.ensures.1 in
    let cut = rw c.as_slice-in-CutB.ensures at c.in_err-gather_cut-in-CutB.ensures in
    let gathers = rw c.deref-in-CutB.ensures at cut in
    rw c.in-CutB.is (gathers_as _ (cutb_line c.in-CutB.list.value.list c.args.leaf.now c.next_leaf-number-in-CutB.result.0 c.next_leaf-number-in-CutB.ensures.first) (Gathers-prefix p.1 gathers.prefix))

pub returns-in_ok-gather_cut-in-CutA-clause-gathers : goal.returns-in_ok-gather_cut-in-CutA-clause-gathers
returns-in_ok-gather_cut-in-CutA-clause-gathers g c =
    let cut = rw c.as_slice.ensures at c.in_ok-gather_cut-in-CutA.ensures in
    let gathers = rw c.deref.ensures at cut in
    rw c.in-CutA.is (gathers_as _ (cuta_line c.in-CutA.list.value.list c.args.leaf.now c.next_leaf-number.result.0 c.next_leaf-number.ensures.first) (Gathers-all gathers.all))

pub returns-in_ok-gather_cut-in-CutB-clause-gathers : goal.returns-in_ok-gather_cut-in-CutB-clause-gathers
returns-in_ok-gather_cut-in-CutB-clause-gathers g c =
    let cut = rw c.as_slice-in-CutB.ensures at c.in_ok-gather_cut-in-CutB.ensures in
    let gathers = rw c.deref-in-CutB.ensures at cut in
    rw c.in-CutB.is (gathers_as _ (cutb_line c.in-CutB.list.value.list c.args.leaf.now c.next_leaf-number-in-CutB.result.0 c.next_leaf-number-in-CutB.ensures.first) (Gathers-all gathers.all))
