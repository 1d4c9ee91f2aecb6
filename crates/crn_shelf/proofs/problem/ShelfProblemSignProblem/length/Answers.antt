use Rattle.crn_shelf.proofs.Prelude.{◌∙◌, sym, arith, signals_are_lawful}
use Rattle.crn_shelf.proofs.problem.ShelfProblemSignProblem.length.Goals as goal

pub returns-clause-lawful : goal.returns-clause-lawful
returns-clause-lawful c =
    let p = c.args.self.now in
    signals_are_lawful p.shape.now p.matrix (record {
      rows = p.species;
      species = omega (arith, c.species.ensures.count, c.species.ensures.limit);
      complexes = omega (arith, c.complexes.ensures.count, c.complexes.ensures.limit);
      tops = sym c.complexes.ensures.tops ∙ c.complexes.ensures.count;
      pairs = omega (arith, c.pairs.ensures.count, c.pairs.ensures.limit);
    })
