use Rattle.crn_vec.proofs.Cuts.{weights_decide_cuts}
use Rattle.crn_vec.proofs.laws.linear.weights_decide_cuts.Goals as goal

pub returns : goal.returns
returns c = weights_decide_cuts
