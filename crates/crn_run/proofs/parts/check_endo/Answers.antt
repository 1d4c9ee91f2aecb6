use Rattle.crn_run.proofs.Prelude.{ap, sym, endo_verdict, IsSeenOf, Endo}
use Rattle.crn_run.proofs.Verified.{stop_named, verdict_ends, verify_stop_ends}
use Rattle.crn_run.proofs.parts.check_endo.Goals as goal

pub end_without_document-requires : goal.end_without_document-requires
end_without_document-requires g c = stop_named Endo c.in-Err.stop IsSeenOf _ _ c.in-Err.ensures.gives

pub returns-in-Ok : goal.returns-in-Ok
returns-in-Ok g c = λ words said.
    let truth = c.valid_answers_on_endotactic_networks_are_true.ensures in
    verdict_ends Endo c.write_endotactic.result words (IsSeenOf c.in-Ok.seen) _ _ _ (λ net answer network formed valid. truth net answer network valid) said c.in-Ok.ensures.gives
    (λ given is. ap endo_verdict (sym is)) c.write_endotactic.ensures

pub returns-in-Err : goal.returns-in-Err
returns-in-Err g c = λ words said. verify_stop_ends Endo c.in-Err.stop c.end_without_document.result words IsSeenOf _ _ said c.in-Err.ensures.gives c.end_without_document.ensures
