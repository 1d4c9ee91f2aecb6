use Rattle.crn_siphon.proofs.Prelude.{◌+◌, ◌-◌, ◌*◌, length}
use Rattle.crn_siphon.proofs.search.+walk.Given as goal

abbrev pub decreases-fork : goal.decreases-fork
decreases-fork l = 2 * (length l.net.now.names - l.place.chosen)

abbrev pub decreases-walk : goal.decreases-walk
decreases-walk l = 2 * (length l.net.now.names - l.place.chosen) + 1
