use Rattle.crn_graph.proofs.Prelude.{◌≡◌, ◌<◌, ◌+◌, ◌∙◌, ◌++◌, ◌∷◌, [], length, sym, ap, subst, refl, arith, Vec, Global, IfOk-weaker, Arc, arc_at, AreInside, AreArcsWithin}
use Rattle.crn_graph.proofs.StrongLaws.{AreEqualTo, equal_past, equal_more, equal_all, inside_push}
use Rattle.crn_graph.proofs.graph.Graph.within.Goals as goal
use Rattle.crn_graph.proofs.graph.Graph.within.Goals.{then-rank-arc+in_ok-push, else-rank-arc}

pub loop-arc-preserved : goal.loop-arc-preserved
loop-arc-preserved c =
    let h = c.loop-arc.invariant in
    let ranks = c.args.rank.now in
    let n = length c.args.net.now.complexes in
    let arcs = c.deref-arc-items.result.now in
    let i = c.loop-arc.arc-index in
    let x = arc_at arcs i in
    let lt : i < length arcs = omega (arith, c.loop-arc-test.true, c.loop-arc.auto.arc-index-end) in
    let inside : AreInside n arcs = subst (AreInside n) (sym c.deref-arc-items.ensures.value) c.in_ok-arcs.ensures.inside in
    elim c.if-rank-arc.branch [
      | then-rank-arc+in_ok-push w ↦
          let e : c.if-rank-arc.within.items ≡ c.loop-arc.within.items ++ x ∷ [] = ap (λ (v : Vec Arc Global). v.items) w.within-is ∙ w.in_ok-push.ensures.items in
          record {
            equal = subst (AreEqualTo ranks arcs (i + 1)) (sym e) (equal_more ranks arcs i c.loop-arc.within.items x h.equal lt refl w.if-rank-arc.true);
            inside = subst (AreInside n) (sym e) (inside_push n c.loop-arc.within.items x h.inside (inside.from i lt) (inside.to i lt));
          }
      | else-rank-arc w ↦
          let e = ap (λ (v : Vec Arc Global). v.items) w.within-is in
          record {
            equal = subst (AreEqualTo ranks arcs (i + 1)) (sym e) (equal_past ranks arcs i c.loop-arc.within.items h.equal w.if-rank-arc.false);
            inside = subst (AreInside n) (sym e) h.inside;
          }
    ]

pub returns-clause-arcs : goal.returns-clause-arcs
returns-clause-arcs c =
    let net = c.args.net.now in
    let way = c.args.way in
    let ranks = c.args.rank.now in
    let arcs = c.deref-arc-items.result.now in
    let h = c.loop-arc.invariant in
    let end : c.loop-arc.arc-index ≡ length arcs = omega (arith, c.loop-arc-test.false, c.loop-arc.auto.arc-index-end) in
    let all : AreArcsWithin net way ranks c.loop-arc.within.items = equal_all net way ranks arcs c.loop-arc.within.items (rw c.deref-arc-items.ensures.value c.in_ok-arcs.ensures.steps) (subst (λ k. AreEqualTo ranks arcs k c.loop-arc.within.items) end h.equal) in
    IfOk-weaker c.of.result _ _ (λ made e. rw e all) c.of.ensures.arcs
