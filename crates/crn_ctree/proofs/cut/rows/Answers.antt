use Rattle.crn_ctree.proofs.Prelude.{length, sym, ap, ◌∙◌, rows_count, matrix_by, System}
use Rattle.crn_ctree.proofs.cut.rows.Goals as goal

pub returns-in-Reactions-clause-count : goal.returns-in-Reactions-clause-count
returns-in-Reactions-clause-count c =
    c.species.ensures.count ∙ sym (rows_count c.args.net.now) ∙ ap (λ (s : System). length (matrix_by c.args.net.now s).rows) (sym c.in-Reactions.is)

pub returns-in-Shelves-clause-count : goal.returns-in-Shelves-clause-count
returns-in-Shelves-clause-count c =
    c.rows.ensures.count ∙ ap (λ (s : System). length (matrix_by c.args.net.now s).rows) (sym c.in-Shelves.is)
