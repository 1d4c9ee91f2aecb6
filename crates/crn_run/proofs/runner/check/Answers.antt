use Rattle.crn_run.proofs.Prelude.{refl}
use Rattle.crn_run.proofs.Checked.{accept_ends, accepted_formed, failed_ends, reject_ends, read_formed}
use Rattle.crn_run.proofs.runner.check.Goals as goal

pub accept-requires : goal.accept-requires
accept-requires g c =
    let a = c.in-Ok.ensures.gives in
    accepted_formed c.answers_are_as_their_records.ensures.given c.in-Ok.accepted.net a.blocks c.in-Ok.accepted.verdicts
    (read_formed c.good_documents_are_read.ensures.same a.text c.in-Ok.accepted.net a.blocks a.gives) a.verdicts

pub returns-in-Ok : goal.returns-in-Ok
returns-in-Ok g c = λ words said. accept_ends c.good_documents_are_read.ensures.same c.accept.result words c.in-Ok.accepted _ _ said c.in-Ok.ensures.gives c.accept.ensures

pub returns-in-Err-Rejected : goal.returns-in-Err-Rejected
returns-in-Err-Rejected g c = λ words said. reject_ends c.reject.result words c.in-Err-Rejected.code c.in-Err-Rejected.line _ _ c.reject.ensures.line_is_short c.reject.ensures.code_is_short said (rw c.in-Err-Rejected.field-0-is at c.in-Err-Rejected.ensures.gives) c.reject.ensures.gives

pub returns-in-Err-Failed : goal.returns-in-Err-Failed
returns-in-Err-Failed g c = λ words said. failed_ends words _ _ said (rw c.in-Err-Failed.field-0-is at c.in-Err-Failed.ensures.gives) refl
