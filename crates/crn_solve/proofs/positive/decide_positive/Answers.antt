use Rattle.crn_solve.proofs.Prelude.{◌≡◌, ◌<◌, ℕ, ◌↔◌, List, ap, sym, subst, ◌∙◌, arith, MatchResult, IsIn, Mat, HasOneRowCut, signed_count, Kind, positive_kinds, Decision, Stop, IsDecision, IsStop, IsTargetStop, IsRuledOut, decision_from}
use Rattle.std.proofs.Common.{Result}
use Rattle.crn_solve.proofs.PositiveKinds.{kinds_signed}
use Rattle.crn_solve.proofs.positive.decide_positive.Goals as goal

-- what a solver of this matrix says whose basis is the columns
decided : (a m : Mat) (kinds : List Kind) (basis : List ℕ) (r : Result Decision Stop) → m ≡ a → kinds ≡ positive_kinds a
    → MatchResult r (λ (d : Decision). IsDecision m kinds d) (λ (s : Stop). IsTargetStop m kinds s)
    → ((k : ℕ) → IsIn k basis ↔ (k < a.cols))
    → (((k : ℕ) → IsIn k basis ↔ (k < m.cols)) → HasOneRowCut m kinds → IsRuledOut r)
    → MatchResult r (λ (d : Decision). IsDecision a (positive_kinds a) d) (λ (s : Stop). IsStop a (positive_kinds a) s)
decided a m kinds basis r same is h columns ruled =
    let from : (k : ℕ) → IsIn k basis ↔ (k < m.cols) = λ k. subst (λ (b : Mat). IsIn k basis ↔ (k < b.cols)) (sym same) (columns k) in
    let given : MatchResult r (λ (d : Decision). IsDecision m kinds d) (λ (s : Stop). IsStop m kinds s) = decision_from m kinds r h (ruled from) in
    let known : MatchResult r (λ (d : Decision). IsDecision m (positive_kinds a) d) (λ (s : Stop). IsStop m (positive_kinds a) s) =
    subst (λ (ks : List Kind). MatchResult r (λ (d : Decision). IsDecision m ks d) (λ (s : Stop). IsStop m ks s)) is given in
    subst (λ (b : Mat). MatchResult r (λ (d : Decision). IsDecision b (positive_kinds a) d) (λ (s : Stop). IsStop b (positive_kinds a) s)) same known

pub decide_by-requires-clause-few : goal.decide_by-requires-clause-few
decide_by-requires-clause-few c =
    let same : signed_count c.deref.result.now ≡ c.args.matrix.now.cols = ap signed_count (c.deref.ensures.value ∙ c.in-Ok.ensures) ∙ kinds_signed c.args.matrix.now in
    omega (arith, same, c.requires.few)

pub settle-requires-clause-few : goal.settle-requires-clause-few
settle-requires-clause-few c =
    let same : signed_count c.deref-in-None.result.now ≡ c.args.matrix.now.cols = ap signed_count (c.deref-in-None.ensures.value ∙ c.in-Ok.ensures) ∙ kinds_signed c.args.matrix.now in
    omega (arith, same, c.requires.few)

pub returns-in-Some-clause-answer : goal.returns-in-Some-clause-answer
returns-in-Some-clause-answer c =
    let t = c.args.solver.now in
    decided c.args.matrix.now t.matrix c.deref.result.now t.basis c.decide_by.result c.requires.matrix (c.deref.ensures.value ∙ c.in-Ok.ensures)
    c.decide_by.ensures.answer c.requires.columns c.decide_by.ensures.from_columns

pub returns-clause-answer : goal.returns-clause-answer
returns-clause-answer c =
    let t = c.args.solver.now in
    decided c.args.matrix.now t.matrix c.deref-in-None.result.now t.basis c.settle.result c.requires.matrix (c.deref-in-None.ensures.value ∙ c.in-Ok.ensures)
    c.settle.ensures.answer c.requires.columns c.settle.ensures.from_columns
