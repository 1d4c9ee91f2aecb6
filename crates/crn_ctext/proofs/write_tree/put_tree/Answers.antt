use Rattle.crn_ctext.proofs.Prelude.{◌∙◌, refl, sym, ap, List, arith, err_from_is_err_and, Wrote-all, Wrote-prefix, Record, record_lines, written, leaves_after}
use Rattle.crn_ctext.proofs.Pieces.{Gathered-add, Gathered-held, Gathered-stop, Gathered-stops, Gathered-then, Gathered-written, wrote_as}
use Rattle.crn_ctext.proofs.NodesWritten.{one_more, leaves_more, one_of, all_done}
use Rattle.crn_ctext.proofs.write_tree.put_tree.Goals as goal

pub loop-node-init : goal.loop-node-init
loop-node-init g c = (Gathered-held _ c.new-piece.ensures, refl)

pub loop-node-preserved : goal.loop-node-preserved
loop-node-preserved g c =
    let loop = c.loop-node in
    let more = one_more c.args.leaf.now loop.rest.now c.nodes-node-items.result.now loop.node-index c.node-item.result (omega arith) c.node-item.is loop.invariant.1 in (
      Gathered-then (Gathered-add _ refl more loop.invariant.0) c.in_ok-rest.ensures.gathers.all,
      c.in_ok-rest.ensures.rest ∙ leaves_more c.args.leaf.now loop.rest.now c.nodes-node-items.result.now loop.node-index c.node-item.result (omega arith) c.node-item.is loop.invariant.1,
    )

pub returns-in_err-rest-clause-wrote : goal.returns-in_err-rest-clause-wrote
returns-in_err-rest-clause-wrote g c =
    let p = err_from_is_err_and c.from_residual.result c.from_residual.ensures.1 in
    let loop = c.loop-node in
    let f = one_of c.args.tree.now c.args.leaf.now loop.rest.now c.nodes-node-items.result.now loop.node-index c.node-item.result c.nodes-node-items.ensures (omega arith) c.node-item.is loop.invariant.1 in
    wrote_as f.1 (Wrote-prefix p.1 (Gathered-stops f.0 (Gathered-add _ refl refl loop.invariant.0) c.in_err-rest.ensures.gathers.prefix))

pub returns-in_err-put_all-clause-wrote : goal.returns-in_err-put_all-clause-wrote
returns-in_err-put_all-clause-wrote g c =
    let p = err_from_is_err_and c.from_residual-in_err-put_all.result c.from_residual-in_err-put_all.ensures.1 in
    let wrote = rw c.as_slice.ensures.value at c.in_err-put_all.ensures.writes in
    wrote_as (ap (λ (t : List Record). record_lines (written c.args.leaf.now t)) (sym (all_done c.args.tree.now c.nodes-node-items.result.now c.loop-node.node-index c.nodes-node-items.ensures (omega arith))))
    (Wrote-prefix p.1 (Gathered-stop c.loop-node.invariant.0 wrote.prefix))

pub returns-clause-wrote : goal.returns-clause-wrote
returns-clause-wrote g c =
    wrote_as (ap (λ (t : List Record). record_lines (written c.args.leaf.now t)) (sym (all_done c.args.tree.now c.nodes-node-items.result.now c.loop-node.node-index c.nodes-node-items.ensures (omega arith))))
    (Wrote-all (Gathered-written c.as_slice.ensures.value c.loop-node.invariant.0 c.in_ok-put_all.ensures.writes.all))

pub returns-clause-rest : goal.returns-clause-rest
returns-clause-rest g c =
    c.loop-node.invariant.1 ∙ ap (λ (t : List Record). leaves_after t c.args.leaf.now) (all_done c.args.tree.now c.nodes-node-items.result.now c.loop-node.node-index c.nodes-node-items.ensures (omega arith))
