use Rattle.crn_ctree.proofs.FirstFails.{first_faults}
use Rattle.crn_ctree.proofs.laws.first_faults_are_those_of_tests.Goals as goal

pub returns : goal.returns
returns c = first_faults
