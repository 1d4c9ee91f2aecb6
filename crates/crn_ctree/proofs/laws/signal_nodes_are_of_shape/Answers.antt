use Rattle.crn_ctree.proofs.SignalTrees.{signal_nodes}
use Rattle.crn_ctree.proofs.laws.signal_nodes_are_of_shape.Goals as goal

pub returns : goal.returns
returns c = signal_nodes
