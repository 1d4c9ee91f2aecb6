use Rattle.crn_cert.proofs.Preorders.{same_tree}
use Rattle.crn_cert.proofs.laws.nodes_are_of_one_tree.Goals as goal

pub returns : goal.returns
returns c = same_tree
