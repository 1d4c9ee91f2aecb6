use Rattle.crn_farkas.proofs.WideStops.{narrow_decided}
use Rattle.crn_farkas.proofs.laws.narrow_matrices_are_decided.Goals as goal

pub returns : goal.returns
returns c = narrow_decided
