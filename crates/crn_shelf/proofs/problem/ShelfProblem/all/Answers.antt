use Rattle.crn_shelf.proofs.Prelude.{◌∙◌, width, all_settle, kinds_after}
use Rattle.crn_shelf.proofs.problem.ShelfProblem.all.Goals as goal

pub returns : goal.returns
returns c =
    let p = c.args.self.now in
    all_settle (kinds_after p.shape.now p.matrix) (width p.matrix) c.args._choices c.deref.result.now (c.deref.ensures.value ∙ p.coordinates_b_are)
