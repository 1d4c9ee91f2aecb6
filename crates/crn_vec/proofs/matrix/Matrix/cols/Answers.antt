use Rattle.crn_vec.proofs.Prelude.{subst, Mat, AreOfLength}
use Rattle.crn_vec.proofs.RowLists.{rows_of_length}
use Rattle.crn_vec.proofs.matrix.Matrix.cols.Goals as goal

pub returns-clause-shape : goal.returns-clause-shape
returns-clause-shape c =
    let P : Mat → Type 0 = λ v. AreOfLength v.cols v.rows in
    subst P c.self.view_is (rows_of_length c.self.inside.rows c.self.inside.cols c.self.inside.entries.value.items c.self.invariant.count)
