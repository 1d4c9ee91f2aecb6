use Rattle.crn_ctree.proofs.Prelude.{length, sym, ap, ◌∙◌, shelf_kinds_long, problem_of, kinds_of, matrix_of, Problem, Part}
use Rattle.crn_ctree.proofs.CutLaws.{table_system, part_system_b, table_kinds, kinds_b}
use Rattle.crn_ctree.proofs.cut.system_of.Goals as goal

pub returns-in-Concordance-clause-matrix : goal.returns-in-Concordance-clause-matrix
returns-in-Concordance-clause-matrix c = λ net. table_system net c.args.problem c.args.part c.in-Concordance.is

pub returns-in-Concordance-clause-kinds : goal.returns-in-Concordance-clause-kinds
returns-in-Concordance-clause-kinds c = λ net p. table_kinds net c.args.problem c.args.part p c.in-Concordance.is

-- part A of signals is over system 5
pub returns-in-A-clause-matrix : goal.returns-in-A-clause-matrix
returns-in-A-clause-matrix c = λ net.
    ap (λ (q : Problem). (problem_of net q).matrix_a) (sym c.in-Signals.is) ∙ ap (λ (p : Part). matrix_of net c.args.problem p) (sym c.in-A.is)

pub returns-in-A-clause-kinds : goal.returns-in-A-clause-kinds
returns-in-A-clause-kinds c = λ net p.
    ap (λ (q : Part). length (kinds_of net c.args.problem q p)) c.in-A.is
    ∙ ap (λ (q : Problem). length ((problem_of net q).kinds_a p)) c.in-Signals.is
    ∙ shelf_kinds_long c.in-Signals.shape.now p (sym c.complexes.ensures.tops ∙ c.complexes.ensures.count)

pub returns-in-B-clause-matrix : goal.returns-in-B-clause-matrix
returns-in-B-clause-matrix c = λ net. part_system_b net c.args.problem c.args.part c.in-B.is

pub returns-in-B-clause-kinds : goal.returns-in-B-clause-kinds
returns-in-B-clause-kinds c = λ net p. kinds_b net c.args.problem c.args.part p c.in-B.is
