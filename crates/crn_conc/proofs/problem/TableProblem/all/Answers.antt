use Rattle.crn_conc.proofs.Prelude.{◌∙◌, width, kinds_b_of}
use Rattle.crn_conc.proofs.SettledLaws.{all_settle}
use Rattle.crn_conc.proofs.problem.TableProblem.all.Goals as goal

pub returns : goal.returns
returns c =
    let p = c.args.self.now in
    all_settle (kinds_b_of p.matrix.now) (width p.matrix.now) c.args._choices c.deref.result.now (c.deref.ensures.value ∙ p.coordinates_are)
