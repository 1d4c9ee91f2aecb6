use Rattle.crn_vec.proofs.OppositeShapes.{negatives_have_opposite_shapes}
use Rattle.crn_vec.proofs.laws.signals.negatives_have_opposite_shapes.Goals as goal

pub returns : goal.returns
returns c = negatives_have_opposite_shapes
