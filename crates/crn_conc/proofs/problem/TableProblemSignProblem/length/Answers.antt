use Rattle.crn_conc.proofs.Prelude.{◌≡◌, List, length, Sign, all_from, tables_are_lawful}
use Rattle.crn_conc.proofs.problem.TableProblemSignProblem.length.Goals as goal

pub returns-clause-lawful : goal.returns-clause-lawful
returns-clause-lawful c =
    let p = c.args.self.now in
    tables_are_lawful p.matrix.now p.table.now (record {
      reactions = p.reactions;
      species = all_from (λ (signs : List Sign). length signs ≡ length p.matrix.now.rows) p.table.now p.species;
      shape = c.cols.ensures.shape;
      few_reactions = p.few_reactions;
      few_species = p.few_species;
    })
