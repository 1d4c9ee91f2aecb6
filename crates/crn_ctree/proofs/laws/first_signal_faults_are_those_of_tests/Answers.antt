use Rattle.crn_ctree.proofs.SignalTrees.{first_signal_faults}
use Rattle.crn_ctree.proofs.laws.first_signal_faults_are_those_of_tests.Goals as goal

pub returns : goal.returns
returns c = first_signal_faults
