use Rattle.crn_ctree.proofs.TreeEnds.{complete_if_and_only_if_valid}
use Rattle.crn_ctree.proofs.laws.complete_if_and_only_if_valid.Goals as goal

pub returns : goal.returns
returns c = complete_if_and_only_if_valid
