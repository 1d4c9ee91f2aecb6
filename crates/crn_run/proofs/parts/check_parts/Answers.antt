use Rattle.crn_run.proofs.Prelude.{ap, sym, parts_verdict, Decomposition}
use Rattle.crn_indep_text.specs.Document.{IsSeenOf}
use Rattle.crn_run.proofs.Verified.{stop_named, verdict_ends, verify_stop_ends}
use Rattle.crn_run.proofs.parts.check_parts.Goals as goal

pub end_without_document-requires : goal.end_without_document-requires
end_without_document-requires g c = stop_named Decomposition c.in-Err.stop IsSeenOf _ _ c.in-Err.ensures.gives

pub returns-in-Ok : goal.returns-in-Ok
returns-in-Ok g c = λ words said.
    verdict_ends Decomposition c.write_decomposition.result words (IsSeenOf c.in-Ok.seen) _ _ _ c.valid_answers_on_decompositions_are_true.ensures said c.in-Ok.ensures.gives
    (λ given is. ap parts_verdict (sym is)) c.write_decomposition.ensures

pub returns-in-Err : goal.returns-in-Err
returns-in-Err g c = λ words said. verify_stop_ends Decomposition c.in-Err.stop c.end_without_document.result words IsSeenOf _ _ said c.in-Err.ensures.gives c.end_without_document.ensures
