use Rattle.crn_farkas.proofs.Prelude.{◌≡◌, ◌<◌, ℕ, ◌↔◌, subst, sym, MatchResult, IsIn, Mat, Decision, Stop, IsDecision, IsStop}
use Rattle.crn_farkas.proofs.Finals.{decision_from}
use Rattle.crn_farkas.proofs.system.decide_by.Goals as goal

pub returns : goal.returns
returns c =
    let kinds = c.args.system.now.kinds.now in
    let made = c.in_ok-solver.solver.matrix in
    let same : made ≡ c.args.system.now.matrix.now = c.in_ok-solver.ensures.matrix in
    let D : Mat → Type 0 = λ a. MatchResult c.decide_by.result (λ (d : Decision). IsDecision a kinds d) (λ (s : Stop). IsStop a kinds s) in
    let columns = λ (k : ℕ). subst (λ (a : Mat). IsIn k c.in_ok-solver.solver.basis ↔ (k < a.cols)) (sym same) (c.in_ok-solver.ensures.basis k) in
    subst D same (decision_from made kinds c.decide_by.result c.decide_by.ensures.answer (c.decide_by.ensures.from_columns columns))
