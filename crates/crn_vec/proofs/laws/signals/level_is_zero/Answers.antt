use Rattle.crn_vec.proofs.Level.{level_zero}
use Rattle.crn_vec.proofs.laws.signals.level_is_zero.Goals as goal

pub returns : goal.returns
returns c = level_zero
