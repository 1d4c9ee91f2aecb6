use Rattle.crn_run.proofs.output.status_by.Goals as goal

pub returns-then-is_left : goal.returns-then-is_left
returns-then-is_left c = c.if-is_left.true
