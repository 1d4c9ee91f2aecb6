use Rattle.crn_run.proofs.Prelude.{IsTrue, verdicts_of, HasOpen}
use Rattle.crn_run.proofs.Statuses.{left_as}
use Rattle.crn_run.proofs.output.status_of.Goals as goal

pub returns : goal.returns
returns c = left_as (IsTrue c.has_open-is_left.result) (HasOpen (verdicts_of c.args.answers.now)) c.status_by.result c.has_open-is_left.ensures.0 c.has_open-is_left.ensures.1 c.status_by.ensures
