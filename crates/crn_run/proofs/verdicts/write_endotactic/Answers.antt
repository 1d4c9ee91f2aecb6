use Rattle.crn_run.proofs.verdicts.write_endotactic.Goals as goal

pub returns-in-No : goal.returns-in-No
returns-in-No g c = rw c.in-No.is (c.status_written-in-No.ensures _ _ _ c.put_number.ensures)

pub returns-in-Undecided : goal.returns-in-Undecided
returns-in-Undecided g c = rw c.in-Undecided.is (c.status_written-in-Undecided.ensures _ _ _ c.put_all-in-Undecided.ensures.writes)
