use Rattle.crn_ctree.proofs.Prelude.{sym, ap, ◌∙◌, rows_count, problem_of, Problem}
use Rattle.crn_ctree.proofs.node.choices.Goals as goal

pub returns-in-Concordance : goal.returns-in-Concordance
returns-in-Concordance c =
    c.species.ensures.count ∙ sym (rows_count c.args.net.now) ∙ ap (λ (q : Problem). (problem_of c.args.net.now q).choices) (sym c.in-Concordance.is)
