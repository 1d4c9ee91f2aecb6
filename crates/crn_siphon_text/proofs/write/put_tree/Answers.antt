use Rattle.crn_siphon_text.proofs.Prelude.{arith, err_from_is_err_and, stops_later, wrote_as, Wrote-all, weights_of}
use Rattle.crn_siphon_text.proofs.Written.{node_left, nodes_done}
use Rattle.crn_siphon_text.proofs.write.put_tree.Goals as goal

pub returns-in_err-put_node : goal.returns-in_err-put_node
returns-in_err-put_node g c =
    let p = err_from_is_err_and c.from_residual.result c.from_residual.ensures.1 in
    stops_later _ (node_left c.args.tree.now (weights_of c.parts.result.1.now) c.parts.result.0.now c.loop-node.node-index _ c.parts.ensures (omega arith)) p.1 c.loop-node.invariant c.in_err-put_node.ensures.prefix

pub returns : goal.returns
returns g c = wrote_as (nodes_done c.args.tree.now (weights_of c.parts.result.1.now) c.parts.result.0.now c.loop-node.node-index c.parts.ensures (omega arith)) (Wrote-all c.loop-node.invariant)
