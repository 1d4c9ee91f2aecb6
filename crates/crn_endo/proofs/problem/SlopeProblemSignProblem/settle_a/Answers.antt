use Rattle.crn_endo.proofs.Prelude.{sym, ap, subst, ◌∙◌, AskKindsBy, word_count, slope_kinds, slope_matrix}
use Rattle.crn_endo.proofs.Steps.{asks_by}
use Rattle.crn_endo.proofs.problem.SlopeProblemSignProblem.settle_a.Goals as goal

pub put_last-requires : goal.put_last-requires
put_last-requires c =
    let p = c.args.self.now in
    record {
      before = c.requires.above;
      few = c.requires.prefix;
      long = c.requires.long ∙ sym (ap word_count p.matrix_is);
      sums = c.requires.sums ∙ sym (ap word_count p.matrix_is);
    }

pub returns-clause-asked : goal.returns-clause-asked
returns-clause-asked c =
    let p = c.args.self.now in
    let s = p.given.now in
    let q = c.args.prefix.now in
    subst (AskKindsBy (slope_matrix s.net s.reaction) p.weak.items (slope_kinds s.net s.reaction q)) (sym c.copy_from_slice.ensures.after)
    (asks_by s.net s.reaction q p.weak.items c.put_last.new.sums p.weak_is c.put_last.ensures)
