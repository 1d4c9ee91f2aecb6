use Rattle.crn_run.proofs.Prelude.{ap, sym, persist_verdict, IsOutcomeOf, Persist}
use Rattle.crn_run.proofs.Verified.{stop_named, verdict_ends, verify_stop_ends}
use Rattle.crn_run.proofs.parts.check_persist.Goals as goal

pub end_without_document-requires : goal.end_without_document-requires
end_without_document-requires g c = stop_named Persist c.in-Err.stop IsOutcomeOf _ _ c.in-Err.ensures.gives

pub returns-in-Ok : goal.returns-in-Ok
returns-in-Ok g c = λ words said.
    verdict_ends Persist c.write_persistence.result words (IsOutcomeOf c.in-Ok.outcome) _ _ _ c.valid_answers_on_persistence_are_true.ensures said c.in-Ok.ensures.gives
    (λ given is. ap persist_verdict (sym is)) c.write_persistence.ensures

pub returns-in-Err : goal.returns-in-Err
returns-in-Err g c = λ words said. verify_stop_ends Persist c.in-Err.stop c.end_without_document.result words IsOutcomeOf _ _ said c.in-Err.ensures.gives c.end_without_document.ensures
