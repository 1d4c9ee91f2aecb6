use Rattle.crn_laws.proofs.SharedSignals.{signals_are_shared}
use Rattle.crn_laws.proofs.laws.renumbered_networks_share_signals.Goals as goal

pub returns : goal.returns
returns c = signals_are_shared
