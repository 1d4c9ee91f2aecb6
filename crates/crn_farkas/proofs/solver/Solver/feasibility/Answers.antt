use Rattle.crn_farkas.proofs.Prelude.{◌<◌, ◌↔◌, ℕ, subst, IsIn, HasOneRowCut, KeptTableau, IsUnsolvable}
use Rattle.crn_farkas.proofs.Finals.{one_row_kept}
use Rattle.crn_farkas.proofs.solver.Solver.feasibility.Goals as goal

pub returns-clause-from_columns : goal.returns-clause-from_columns
returns-clause-from_columns c =
    let t = c.self.inside.tableau in
    let kinds = c.args.kinds.now in
    let P : KeptTableau → Type 0 = λ v. ((k : ℕ) → IsIn k v.basis ↔ (k < v.matrix.cols)) → HasOneRowCut v.matrix kinds → IsUnsolvable c.feasibility-result.result in
    subst P c.self.view_is (λ columns one. (c.feasibility-result.ensures.kept (one_row_kept t.matrix t.basis kinds columns one)).0)
