use Rattle.crn_net.proofs.Prelude.{◌<◌, length}
use Rattle.crn_net.proofs.merge.look_up.Given as goal

abbrev pub invariant-tries : goal.invariant-tries
invariant-tries l = l.slot < length l.slots
