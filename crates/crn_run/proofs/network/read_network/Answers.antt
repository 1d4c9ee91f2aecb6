use Rattle.crn_run.proofs.Prelude.{inr, arith}
use Rattle.crn_run.proofs.Runs.{too_long}
use Rattle.crn_run.proofs.network.read_network.Goals as goal

pub returns-in-Err-TooLong : goal.returns-in-Err-TooLong
returns-in-Err-TooLong g c =
    let e = rw c.in-Err-TooLong.field-0-is at c.in-Err-TooLong.ensures in
    let t = too_long _ _ e.0 e.1 e.2 in
    (t.0, record { left = t.1; within = (e.0, omega (arith, e.1), e.2); faults = e.3 }, inr (e.0, e.1, e.2), t.2)
