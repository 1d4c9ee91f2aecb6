use Rattle.crn_run.proofs.Prelude.{List, subst, IsTrue, Verdict, verdicts_of, HasOpen}
use Rattle.std.proofs.Common.{◌↔◌}
use Rattle.crn_run.proofs.Statuses.{left_as}
use Rattle.crn_run.proofs.output.status_of_verdicts.Goals as goal

pub returns : goal.returns
returns c = λ answers e.
    let shown = subst (λ (vs : List Verdict). IsTrue c.some_open-is_left.result ↔ HasOpen vs) e c.some_open-is_left.ensures in
    left_as (IsTrue c.some_open-is_left.result) (HasOpen (verdicts_of answers)) c.status_by.result shown.0 shown.1 c.status_by.ensures
