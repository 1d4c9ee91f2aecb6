use Rattle.crn_ctree.proofs.Prelude.{◌+◌, ℕ, sym, ap, ◌∙◌, matrix_by, System}
use Rattle.crn_ctree.proofs.cut.columns.Goals as goal

pub returns-in-Reactions-clause-count : goal.returns-in-Reactions-clause-count
returns-in-Reactions-clause-count c =
    c.reactions.ensures.count ∙ ap (λ (s : System). (matrix_by c.args.net.now s).cols) (sym c.in-Reactions.is)

pub returns-in-Shelves-clause-count : goal.returns-in-Shelves-clause-count
returns-in-Shelves-clause-count c =
    ap (λ (n : ℕ). n + 1) c.species.ensures.count ∙ ap (λ (s : System). (matrix_by c.args.net.now s).cols) (sym c.in-Shelves.is)
