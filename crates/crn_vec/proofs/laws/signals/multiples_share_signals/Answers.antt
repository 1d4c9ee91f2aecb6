use Rattle.crn_vec.proofs.NetSignalLaws.{multiples_share_signals}
use Rattle.crn_vec.proofs.laws.signals.multiples_share_signals.Goals as goal

pub returns : goal.returns
returns c = multiples_share_signals
