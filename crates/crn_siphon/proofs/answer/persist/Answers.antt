use Rattle.crn_siphon.proofs.Prelude.{subst, if_ok, Decision, IsLawDecision, IsAnswer, said_of, Persist, IsStopAnswer}
use Rattle.crn_siphon.proofs.EndLaws.{first_stop, cut_answer}
use Rattle.crn_siphon.proofs.answer.persist.Goals as goal

pub returns-in-Ok-Infeasible : goal.returns-in-Ok-Infeasible
returns-in-Ok-Infeasible c =
    let net = c.args.net.now in
    let w = c.in-Ok-Infeasible in
    let d = subst (λ (d : Decision). IsLawDecision net d) w.field-0-is w.ensures in
    cut_answer net c.args.budget w.cut.list c.meets_definition.ensures d.0 d.1

pub returns-in-Err : goal.returns-in-Err
returns-in-Err c =
    let net = c.args.net.now in
    if_ok (λ (a : Persist). IsStopAnswer 1 c.in-Err.stop a) (λ (a : Persist). IsAnswer net c.args.budget (said_of a)) c.stop_answer.result
    (λ a e. first_stop net c.args.budget c.in-Err.stop a c.in-Err.ensures e) c.stop_answer.ensures
