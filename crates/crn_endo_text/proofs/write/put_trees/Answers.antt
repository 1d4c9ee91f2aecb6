use Rattle.crn_endo_text.proofs.Prelude.{arith, err_from_is_err_and, WroteAll-none, WroteAll-step, Wrote-all, stops_later, wrote_as}
use Rattle.crn_endo_text.proofs.Written.{tree_more, tree_left, trees_done}
use Rattle.crn_endo_text.proofs.write.put_trees.Goals as goal

pub loop-r-init : goal.loop-r-init
loop-r-init g c = WroteAll-none _

pub loop-r-preserved : goal.loop-r-preserved
loop-r-preserved g c =
    let wrote = rw c.tree.ensures at c.in_ok-put_nodes.ensures in
    WroteAll-step (tree_more c.args.trees.now c.loop-r.r (omega arith)) c.loop-r.invariant wrote.all

pub returns-in_err-put_nodes : goal.returns-in_err-put_nodes
returns-in_err-put_nodes g c =
    let p = err_from_is_err_and c.from_residual.result c.from_residual.ensures.1 in
    let wrote = rw c.tree.ensures at c.in_err-put_nodes.ensures in
    stops_later _ (tree_left c.args.trees.now c.loop-r.r (omega arith)) p.1 c.loop-r.invariant wrote.prefix

pub returns : goal.returns
returns g c = wrote_as (trees_done c.args.trees.now c.loop-r.r (omega arith)) (Wrote-all c.loop-r.invariant)
