use Rattle.crn_vec.proofs.Preorder.{visits_are_preorder}
use Rattle.crn_vec.proofs.laws.visits.visits_are_in_preorder.Goals as goal

pub returns : goal.returns
returns c = visits_are_preorder
