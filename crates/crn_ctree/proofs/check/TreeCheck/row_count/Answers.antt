use Rattle.crn_ctree.proofs.Prelude.{length, ap, ◌∙◌, Mat, KeptTree, matrix_of, part_of, Part}
use Rattle.crn_ctree.proofs.check.TreeCheck.row_count.Goals as goal

pub returns : goal.returns
returns c =
    let net = c.args.net.now in
    c.rows.ensures.count
    ∙ ap (λ (a : Mat). length a.rows) (c.system_of.ensures.matrix net)
    ∙ ap (λ (p : Part). length (matrix_of net c.self.inside.problem p).rows) c.part.ensures
    ∙ ap (λ (k : KeptTree). length (matrix_of net k.problem (part_of c.args.cut)).rows) c.self.view_is
