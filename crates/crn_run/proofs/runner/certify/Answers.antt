use Rattle.crn_run.proofs.Prelude.{Certify}
use Rattle.crn_run.proofs.Runs.{read_ends, stop_ends}
use Rattle.crn_run.proofs.runner.certify.Goals as goal

pub returns-in-Ok : goal.returns-in-Ok
returns-in-Ok g c = λ words said. read_ends c.in-Ok.net (Certify c.args.budget) c.certify.result words _ _ tt said c.in-Ok.ensures c.certify.ensures

pub returns-in-Err : goal.returns-in-Err
returns-in-Err g c = λ words said. stop_ends c.in-Err.stop (Certify c.args.budget) c.end_without_network.result words _ _ tt said c.in-Err.ensures c.end_without_network.ensures
