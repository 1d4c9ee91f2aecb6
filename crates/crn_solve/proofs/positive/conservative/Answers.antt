use Rattle.crn_solve.proofs.Prelude.{subst, sym, Mat, positive_kinds, Q8, Wide, IsDecision, IsStop, IsAnswer}
use Rattle.crn_solve.proofs.PositiveAnswers.{law_decided, law_wide}
use Rattle.crn_solve.proofs.positive.conservative.Goals as goal

pub returns-in-Ok-decided : goal.returns-in-Ok-decided
returns-in-Ok-decided c budget earlier =
    let net = c.args.net.now in
    let d = subst (λ (a : Mat). IsDecision a (positive_kinds a) c.in-Ok-decided.decision) c.requires.matrix c.in-Ok-decided.ensures.answer in
    subst (IsAnswer net budget earlier Q8) (sym c.vector_answer.ensures) (law_decided net budget earlier c.in-Ok-decided.decision c.meets_definition.ensures d)

pub returns-in-Err-Wide : goal.returns-in-Err-Wide
returns-in-Err-Wide c budget earlier =
    let net = c.args.net.now in
    let w = c.in-Err-Wide in
    let a = c.args.matrix.now in
    let named : IsStop a (positive_kinds a) (Wide w.index w.basis) = subst (IsStop a (positive_kinds a)) w.field-0-is w.ensures.answer in
    let s = subst (λ (b : Mat). IsStop b (positive_kinds b) (Wide w.index w.basis)) c.requires.matrix named in
    subst (IsAnswer net budget earlier Q8) (sym c.wide_answer.ensures) (law_wide net budget earlier w.index w.basis s)
