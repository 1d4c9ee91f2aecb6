use Rattle.crn_solve.proofs.Prelude.{subst, sym, ◌∙◌, Mat, positive_kinds, Q7, Wide, IsDecision, IsStop, IsAnswer}
use Rattle.crn_solve.proofs.PositiveAnswers.{dependence_decided, dependence_wide}
use Rattle.crn_solve.proofs.positive.positively_dependent.Goals.{in-Ok-decide_positive, in-Err-Wide}
use Rattle.crn_solve.proofs.positive.positively_dependent.Goals as goal

pub returns-clause-answer : goal.returns-clause-answer
returns-clause-answer c budget earlier =
    let net = c.args.net.now in
    let a = c.args.matrix.now in
    elim c.match-decide_positive.branch as (λ _. IsAnswer net budget earlier Q7 c.match-decide_positive.answer) [
      | in-Ok-decide_positive w ↦
          let d = subst (λ (b : Mat). IsDecision b (positive_kinds b) w.in-Ok-decide_positive.decision) c.requires w.in-Ok-decide_positive.ensures.answer in
          subst (IsAnswer net budget earlier Q7) (sym (w.answer-is ∙ w.vector_answer-answer.ensures)) (dependence_decided net budget earlier w.in-Ok-decide_positive.decision c.meets_definition.ensures d)
      | in-Err-Wide w ↦
          let e = w.in-Err-Wide in
          let named : IsStop a (positive_kinds a) (Wide e.index e.basis) = subst (IsStop a (positive_kinds a)) e.field-0-is e.ensures.answer in
          let s = subst (λ (b : Mat). IsStop b (positive_kinds b) (Wide e.index e.basis)) c.requires named in
          subst (IsAnswer net budget earlier Q7) (sym (w.answer-is ∙ w.wide_answer-answer.ensures)) (dependence_wide net budget earlier e.index e.basis s)
    ]
