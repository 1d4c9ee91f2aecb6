use Rattle.crn_graph.proofs.Prelude.{◌≡◌, ◌<◌, ◌∙◌, length, arith, length-append}
use Rattle.crn_graph.proofs.ReverseLaws.{none_missing, reverses_more, reverses_all}
use Rattle.crn_graph.proofs.reverses.back.Goals as goal

pub returns-in-None : goal.returns-in-None
returns-in-None c =
    let lt : c.loop-r.r < length c.args.net.now.reactions = omega (arith, c.reactions-r-end.ensures.count) in
    none_missing c.args.net.now c.in_ok-graph.graph.arcs c.loop-r.r c.reactant.result c.product.result c.in_ok-graph.ensures.arcs lt c.reactant.ensures.value c.product.ensures.value c.in-None.ensures.none

pub loop-r-preserved : goal.loop-r-preserved
loop-r-preserved c =
    let h = c.loop-r.invariant in
    let lt : c.loop-r.r < length c.args.net.now.reactions = omega (arith, c.reactions-r-end.ensures.count) in
    let new = c.in_ok-push-in-Some.ensures.ok in
    record {
      long = rw new (length-append c.loop-r.reverses.list _ ∙ omega (arith, h.long));
      each = rw new (reverses_more c.args.net.now c.in_ok-graph.graph.arcs c.loop-r.r c.reactant.result c.product.result c.in-Some.b c.loop-r.reverses.list c.in_ok-graph.ensures.arcs lt c.reactant.ensures.value c.product.ensures.value c.in-Some.ensures.some h.long h.each);
    }

pub returns : goal.returns
returns c =
    let h = c.loop-r.invariant in
    let all : c.loop-r.r ≡ length c.args.net.now.reactions = omega (arith, c.reactions-r-end.ensures.count) in
    reverses_all c.args.net.now c.loop-r.reverses.list (h.long ∙ all) (λ r lt. h.each r (omega (arith, lt, all)))
