use Rattle.crn_run.proofs.Prelude.{sym}
use Rattle.crn_run.proofs.verdicts.write_robustness.Goals as goal

pub returns-in-Yes : goal.returns-in-Yes
returns-in-Yes g c = rw (c.in-Yes.is, sym c.name.ensures.value) (c.status_written.ensures _ _ _ c.put_between_two.ensures)

pub returns-in-Number : goal.returns-in-Number
returns-in-Number g c = rw c.in-Number.is (c.status_written-in-Number.ensures _ _ _ c.put_number.ensures)

pub returns-in-None : goal.returns-in-None
returns-in-None g c = rw c.in-None.is (c.status_written-in-None.ensures _ _ _ c.put_all.ensures.writes)

pub returns-in-Rests : goal.returns-in-Rests
returns-in-Rests g c = rw c.in-Rests.is (c.status_written-in-Rests.ensures _ _ _ c.put_all-in-Rests.ensures.writes)
