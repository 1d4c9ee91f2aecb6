use Rattle.crn_vec.proofs.Prelude.{root}
use Rattle.crn_vec.proofs.VisitLaws.{are_one}
use Rattle.crn_vec.proofs.laws.visits.visits_are_one_list.Goals as goal

pub returns : goal.returns
returns c = λ w visits visits' found found' v u. are_one w root visits visits' found found' v u
