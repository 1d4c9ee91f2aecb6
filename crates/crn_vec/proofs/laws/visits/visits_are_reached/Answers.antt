use Rattle.crn_vec.proofs.VisitsReached.{are_reached}
use Rattle.crn_vec.proofs.laws.visits.visits_are_reached.Goals as goal

pub returns : goal.returns
returns c = are_reached
