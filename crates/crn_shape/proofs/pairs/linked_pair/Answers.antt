use Rattle.crn_shape.proofs.Prelude.{◌≡◌, sym, ap, ◌∙◌, ℕ, subst, arith, Some, w128, to_z-of_z, top_at}
use Rattle.crn_shape.proofs.PairSides.{side_across, top_there, pair_for, pair_in, narrow_within, marks_within}
use Rattle.crn_shape.proofs.pairs.linked_pair.Goals as goal

pub first_across-reaction-requires-clause-some : goal.first_across-reaction-requires-clause-some
first_across-reaction-requires-clause-some c =
    let side = c.requires.side in
    (side.r, side_across c.args.net.now c.args.marks.now side.r c.species.ensures.network c.requires.regular side.first side.side)

pub dot-requires-clause-a : goal.dot-requires-clause-a
dot-requires-clause-a c = narrow_within c.args.g.now c.requires.narrow

pub dot-requires-clause-b : goal.dot-requires-clause-b
dot-requires-clause-b c = marks_within c.args.net.now c.args.marks.now c.requires.side

pub top_of-requires-clause-some : goal.top_of-requires-clause-some
top_of-requires-clause-some c =
    let net = c.args.net.now in
    subst (λ (y : ℕ). (k : ℕ) × (top_at c.args.tops.now.of.items y ≡ Some k)) (sym c.reactant.ensures.value)
    (top_there net c.args.marks.now c.args.tops.now.of.items c.args.tops.now.count c.first_across-reaction.result c.species.ensures.network c.requires.regular c.requires.tops c.requires.side c.first_across-reaction.ensures)

pub returns-clause-pair : goal.returns-clause-pair
returns-clause-pair c =
    let net = c.args.net.now in
    let tops = c.args.tops.now.of.items in
    pair_for net c.args.g.now tops c.args.marks.now _ c.species.ensures.network c.requires.regular c.requires.long c.first_across-reaction.ensures
    (ap (top_at tops) (sym c.reactant.ensures.value) ∙ c.top_of.ensures)
    (to_z-of_z w128 c.dot.result (record { sfits = c.dot.type_inv }) ∙ c.dot.ensures)

pub returns-clause-small : goal.returns-clause-small
returns-clause-small c =
    pair_in c.args.net.now c.args.g.now c.args.marks.now _ c.requires.long (omega (arith, c.complexes.ensures.count, c.complexes.ensures.limit)) c.requires.narrow c.requires.side c.first_across-reaction.ensures
    (to_z-of_z w128 c.dot.result (record { sfits = c.dot.type_inv }) ∙ c.dot.ensures)
