use Rattle.crn_run.proofs.Prelude.{ap₂, robust_verdict, IsReadAs, Robust}
use Rattle.crn_run.proofs.Robustness.{inside_read, robustness_true}
use Rattle.crn_run.proofs.Verified.{stop_named, verdict_ends, verify_stop_ends}
use Rattle.crn_run.proofs.parts.check_robust.Goals as goal

pub end_without_document-requires : goal.end_without_document-requires
end_without_document-requires g c = stop_named Robust c.in-Err.stop IsReadAs _ _ c.in-Err.ensures.gives

pub write_robustness-requires : goal.write_robustness-requires
write_robustness-requires g c =
    let read = c.in-Ok.ensures.gives in
    inside_read read.text read.given.0 read.given.1 _ _ read.says (read.after, read.gives)

pub returns-in-Ok : goal.returns-in-Ok
returns-in-Ok g c = λ words said.
    let laws = c.valid_answers_on_robustness_are_true.ensures in
    verdict_ends Robust c.write_robustness.result words (IsReadAs c.in-Ok.verified) _ _ _ (λ net answer network formed valid. robustness_true net answer c.cases_decide_robustness.ensures laws.cases laws.lines network valid) said c.in-Ok.ensures.gives
    (λ given is. ap₂ robust_verdict is.0 is.1) c.write_robustness.ensures

pub returns-in-Err : goal.returns-in-Err
returns-in-Err g c = λ words said. verify_stop_ends Robust c.in-Err.stop c.end_without_document.result words IsReadAs _ _ said c.in-Err.ensures.gives c.end_without_document.ensures
