use Rattle.crn_graph.proofs.Prelude.{◌+◌, length, arith}
use Rattle.crn_graph.proofs.ArcLaws.{arcs_more, inside_more}
use Rattle.crn_graph.proofs.arcs.arcs_of.Goals as goal

pub loop-r-preserved : goal.loop-r-preserved
loop-r-preserved c =
    let h = c.loop-r.invariant in
    let y = c.reactant.result in
    let z = c.product.result in
    let old = c.loop-r.arcs.items in
    let new = c.push_steps.new.arcs.items in
    let adds = c.in_ok-push_steps.ensures.ok in
    record {
      steps = arcs_more c.args.net.now c.args.way c.loop-r.r y z old new (omega (arith, c.reactions-r-end.ensures.count)) c.reactant.ensures.value c.product.ensures.value h.steps adds;
      some = λ one. omega (arith, c.reactant.ensures.complex);
      inside = inside_more c.args.way (length c.args.net.now.complexes) y z (c.loop-r.r + 1) old new h.inside c.reactant.ensures.complex c.product.ensures.complex adds;
    }
