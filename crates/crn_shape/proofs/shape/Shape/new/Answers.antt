use Rattle.crn_shape.proofs.ShapeMade.{sides_are, parts_are, shape_is}
use Rattle.crn_shape.proofs.shape.Shape.new.Goals as goal

pub linked_pairs-requires-clause-sides : goal.linked_pairs-requires-clause-sides
linked_pairs-requires-clause-sides c = sides_are c.args.net.now c.args.sides.now c.requires.sides

pub invariant_of-result : goal.invariant_of-result
invariant_of-result c =
    let t = c.in_ok-tops.tops in
    parts_are c.args.net.now c.args.vector.now t.of.items t.count c.args.sides.now c.in_ok-pairs.pairs.items c.species.ensures.network c.requires.regular c.requires.long c.in_ok-tops.ensures.tops c.in_ok-tops.ensures.few c.requires.sides c.in_ok-pairs.ensures.pairs c.in_ok-pairs.ensures.small

pub returns : goal.returns
returns c =
    let t = c.in_ok-tops.tops in
    shape_is c.args.net.now c.args.vector.now t.of.items t.count c.args.sides.now c.in_ok-pairs.pairs.items c.species.ensures.network c.in_ok-tops.ensures.tops c.requires.sides c.in_ok-pairs.ensures.pairs
