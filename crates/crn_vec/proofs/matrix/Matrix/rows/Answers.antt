use Rattle.crn_vec.proofs.Prelude.{ℕ, [], length, get_or, sym, ap, subst, ◌∙◌, MAX_AMOUNT, Mat, AreWithin}
use Rattle.crn_vec.proofs.RowLists.{length-rows_of, within_rows}
use Rattle.crn_vec.proofs.matrix.Matrix.rows.Goals as goal

pub returns-clause-count : goal.returns-clause-count
returns-clause-count c =
    sym (length-rows_of c.self.inside.rows c.self.inside.cols c.self.inside.entries.value.items) ∙ ap (λ (v : Mat). length v.rows) c.self.view_is

pub returns-clause-small : goal.returns-clause-small
returns-clause-small c =
    let P : Mat → Type 0 = λ v. (i : ℕ) → AreWithin MAX_AMOUNT (get_or v.rows i []) in
    subst P c.self.view_is (λ i. within_rows MAX_AMOUNT c.self.inside.rows c.self.inside.cols c.self.inside.entries.value.items i c.self.invariant.small)
