use Rattle.crn_check.proofs.Prelude.{◌<◌, length, arith, goes_at, refused}
use Rattle.crn_check.proofs.Counted.{label_from}
use Rattle.crn_check.proofs.Leaving.{leaves_final}
use Rattle.crn_check.proofs.exits.do_finals_hold.Goals as goal

pub returns-then-exits-from-eq0 : goal.returns-then-exits-from-eq0
returns-then-exits-from-eq0 c =
    let net = c.args.net.now in
    let y = c.reactant.result in
    let z = c.product.result in
    let lt : c.loop-r.r < length net.reactions = omega (arith, c.loop-r-test.true, c.reactions-r-end.ensures.count) in
    let goes = goes_at net c.loop-r.r y z lt c.reactant.ensures.value c.product.ensures.value in
    let from = label_from _ _ c.args.labels.now y c.requires c.reactant.ensures.complex in
    refused (leaves_final net c.args.labels.now c.args.exits.now c.loop-r.r y z goes c.if-from-labels.true from.0 from.1 c.if-exits-from-eq0.true)
