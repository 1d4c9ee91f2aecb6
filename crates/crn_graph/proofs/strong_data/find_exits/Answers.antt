use Rattle.crn_graph.proofs.Prelude.{◌≡◌, ◌<◌, ◌≤◌, ◌+◌, ◌∙◌, length, refl, subst, arith, length-set, IsReactionNumber, all_at}
use Rattle.crn_graph.proofs.ExitLaws.{AreExitsTo, number_of, exits_past, exits_more, exits_all}
use Rattle.crn_graph.proofs.strong_data.find_exits.Goals as goal

pub loop-r-preserved-then-class-label : goal.loop-r-preserved-then-class-label
loop-r-preserved-then-class-label c =
    let net = c.args.net.now in
    let h = c.loop-r.invariant in
    let lt : c.loop-r.r < length net.reactions = omega (arith, c.reactions-r-end.ensures.count) in
    let is : IsReactionNumber net (c.loop-r.r + 1) c.reactant.result c.product.result = number_of net c.loop-r.r c.reactant.result c.product.result lt c.reactant.ensures.value c.product.ensures.value in
    record { long = h.long; exits = exits_past net c.args.label.now c.loop-r.exit.items c.loop-r.r c.reactant.result c.product.result h.exits is c.if-class-label.true }

pub loop-r-preserved : goal.loop-r-preserved
loop-r-preserved c =
    let net = c.args.net.now in
    let labels = c.args.label.now in
    let h = c.loop-r.invariant in
    let y = c.reactant.result in
    let lt : c.loop-r.r < length net.reactions = omega (arith, c.reactions-r-end.ensures.count) in
    let is : IsReactionNumber net (c.loop-r.r + 1) y c.product.result = number_of net c.loop-r.r y c.product.result lt c.reactant.ensures.value c.product.ensures.value in
    let inside : y < length labels = omega (arith, c.reactant.ensures.complex, c.requires.labels.long) in
    let range = all_at (λ x. (1 ≤ x) × (x ≤ length c.args.exit.now.items)) labels y 0 c.requires.labels.each inside in
    record {
      long = length-set c.loop-r.exit.items _ _ ∙ h.long;
      exits = exits_more net labels c.loop-r.exit.items _ c.loop-r.r y c.product.result h.exits is c.if-class-label.false range.0 (omega (arith, range.1, h.long)) refl;
    }

pub returns-clause-exits : goal.returns-clause-exits
returns-clause-exits c =
    let all : c.loop-r.r ≡ length c.args.net.now.reactions = omega (arith, c.reactions-r-end.ensures.count) in
    exits_all c.args.net.now c.args.label.now c.loop-r.exit.items (subst (AreExitsTo c.args.net.now c.args.label.now c.loop-r.exit.items) all c.loop-r.invariant.exits)
