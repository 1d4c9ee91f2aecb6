use Rattle.crn_endo_text.proofs.Prelude.{length, err_from_is_err_and, asks_from}
use Rattle.std.specs.Prelude.{Err}
use Rattle.crn_endo_text.proofs.TreesRead.{upto_exits}
use Rattle.crn_endo_text.proofs.tree.next_trees.Goals as goal

pub returns-in_err-next_tree-clause-step : goal.returns-in_err-next_tree-clause-step
returns-in_err-next_tree-clause-step g c =
    let net = c.args.net.now in
    let whole = c.loop-r.invariant.whole in
    let e = c.in_err-next_tree.field-0.0 in
    let new = c.next_tree.new.at in
    let now = g.S.Source.seen c.next_tree.new.source in
    upto_exits (asks_from net 0 c.args.at.now.line) (asks_from net (length net.reactions) new.line) c.from_residual.result e c.args.at.now new (g.S.Source.seen c.args.source.now) now (err_from_is_err_and c.from_residual.result c.from_residual.ensures.1)
    (whole (Err e) new now c.in_err-next_tree.ensures.step)
