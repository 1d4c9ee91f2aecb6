use Rattle.crn_siphon.proofs.Prelude.{subst, IsAnswer, said_of, Shown, IsEndOfVisits, IsStopAnswer, if_ok, Persist}
use Rattle.crn_siphon.proofs.EndLaws.{yes_answer, no_answer, stop_answer}
use Rattle.crn_siphon.proofs.answer.persist_by.Goals as goal

pub returns-in-Ok-Siphon : goal.returns-in-Ok-Siphon
returns-in-Ok-Siphon c =
    let net = c.args.net.now in
    let w = c.in-Ok-Siphon in
    no_answer net c.args.budget c.args.law.list w.marks w.cover c.meets_definition.ensures c.requires.law (subst (λ (e : Shown). IsEndOfVisits net c.args.budget e) w.field-0-is w.ensures)

pub returns-in-Ok-Tree : goal.returns-in-Ok-Tree
returns-in-Ok-Tree c =
    let net = c.args.net.now in
    let w = c.in-Ok-Tree in
    yes_answer net c.args.budget c.args.law.list w.tree c.meets_definition.ensures c.requires.law c.requires.free (subst (λ (e : Shown). IsEndOfVisits net c.args.budget e) w.field-0-is w.ensures)

pub returns-in-Err : goal.returns-in-Err
returns-in-Err c =
    let net = c.args.net.now in
    if_ok (λ (a : Persist). IsStopAnswer 2 c.in-Err.stop a) (λ (a : Persist). IsAnswer net c.args.budget (said_of a)) c.stop_answer.result
    (λ a e. stop_answer net c.args.budget c.in-Err.stop a c.in-Err.ensures e) c.stop_answer.ensures
