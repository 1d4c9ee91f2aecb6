use Rattle.crn_cert.proofs.TreesDecided.{tests_decide_valid_trees}
use Rattle.crn_cert.proofs.laws.tests_decide_valid_trees.Goals as goal

pub returns : goal.returns
returns c = tests_decide_valid_trees
