use Rattle.crn_vec.proofs.NetSignalLaws.{shapes_are_one}
use Rattle.crn_vec.proofs.laws.signals.shapes_are_one.Goals as goal

pub returns : goal.returns
returns c = shapes_are_one
