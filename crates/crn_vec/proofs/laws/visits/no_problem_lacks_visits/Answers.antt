use Rattle.crn_vec.proofs.VisitsExist.{not_none}
use Rattle.crn_vec.proofs.laws.visits.no_problem_lacks_visits.Goals as goal

pub returns : goal.returns
returns c = not_none
