use Rattle.crn_vec.proofs.BothOrders.{signals_are_of_shape}
use Rattle.crn_vec.proofs.laws.signals.signals_are_of_shape.Goals as goal

pub returns : goal.returns
returns c = signals_are_of_shape
