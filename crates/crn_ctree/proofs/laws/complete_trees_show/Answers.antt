use Rattle.crn_ctree.proofs.TreeEnds.{complete_trees_show}
use Rattle.crn_ctree.proofs.laws.complete_trees_show.Goals as goal

pub returns : goal.returns
returns c = complete_trees_show
