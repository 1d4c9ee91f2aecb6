use Rattle.crn_run.proofs.Complete.{quiet_run}
use Rattle.crn_run.proofs.laws.quiet_devices_meet_no_fault.Goals as goal

pub returns : goal.returns
returns c = quiet_run
