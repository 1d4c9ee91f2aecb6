use Rattle.crn_run.proofs.verdicts.write_decomposition.Goals as goal

pub returns-then-seen : goal.returns-then-seen
returns-then-seen g c = rw c.if-seen.true (c.status_written.ensures _ _ _ c.put_all.ensures.writes)
