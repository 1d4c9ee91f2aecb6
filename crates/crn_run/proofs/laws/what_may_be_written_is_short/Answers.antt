use Rattle.crn_run.proofs.Short.{allowed_short}
use Rattle.crn_run.proofs.laws.what_may_be_written_is_short.Goals as goal

pub returns : goal.returns
returns c = allowed_short
