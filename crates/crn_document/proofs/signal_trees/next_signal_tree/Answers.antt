use Rattle.crn_document.proofs.Prelude.{w32, subst, ℤ, to_z-of_z, IsShapeOf, OfVector}
use Rattle.crn_document.proofs.Linkages.{on_ok}
use Rattle.crn_document.proofs.SignalTrees.{as_signal_tree, no_signal_shown}
use Rattle.crn_document.proofs.signal_trees.next_signal_tree.Goals as goal

pub returns-clause-step : goal.returns-clause-step
returns-clause-step g c =
    let net = c.args.net.now in
    let facts = c.args.checked.now.facts in
    let of : OfVector facts.earlier c.args.turn (λ x. IsShapeOf net x c.in_ok-shape.shape) = subst (λ (t : ℤ). OfVector facts.earlier t (λ x. IsShapeOf net x c.in_ok-shape.shape)) (to_z-of_z w32 c.args.turn c.ranges.turn) c.in_ok-shape.ensures in
    as_signal_tree net facts c.args.turn c.in_ok-shape.shape c.args.at.now.version c.args.at.now.line c.args.table.now _ c.next_tree.result c.args.at.now c.next_tree.new.at _ _
    c.requires.ready.known c.requires.vector c.requires.turn of c.next_tree.ensures.step

pub returns-clause-shown : goal.returns-clause-shown
returns-clause-shown g c =
    let net = c.args.net.now in
    let facts = c.args.checked.now.facts in
    let of : OfVector facts.earlier c.args.turn (λ x. IsShapeOf net x c.in_ok-shape.shape) = subst (λ (t : ℤ). OfVector facts.earlier t (λ x. IsShapeOf net x c.in_ok-shape.shape)) (to_z-of_z w32 c.args.turn c.ranges.turn) c.in_ok-shape.ensures in
    on_ok c.next_tree.result _ _ (λ shows. no_signal_shown net facts c.args.turn c.in_ok-shape.shape c.requires.ready.known c.requires.vector of shows) c.next_tree.ensures.shown
