use Rattle.crn_shape.proofs.Prelude.{amounts_within}
use Rattle.crn_shape.proofs.shape.Shape.complex.Goals as goal

pub returns-clause-small : goal.returns-clause-small
returns-clause-small c = amounts_within c.vector.result.now c.vector.ensures.amounts
