use Rattle.crn_check.proofs.positive.weight_change.Goals as goal
use Rattle.crn_check.proofs.Prelude.{narrow_within}

pub dot-requires-clause-a : goal.dot-requires-clause-a
dot-requires-clause-a c = narrow_within c.args.weights.now c.requires.weights.each
