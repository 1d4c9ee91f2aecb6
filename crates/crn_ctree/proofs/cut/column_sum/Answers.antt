use Rattle.crn_ctree.proofs.Prelude.{length, sym, ap, subst, ◌∙◌, arith, w128, to_z-of_z, column, dot, AreFree, matrix_by, FitSkips, System}
use Rattle.crn_ctree.proofs.CutLaws.{free_by}
use Rattle.crn_ctree.proofs.cut.column_sum.Goals as goal

pub reaction_sum-requires-clause-numbers : goal.reaction_sum-requires-clause-numbers
reaction_sum-requires-clause-numbers c =
    free_by c.args.net.now c.args.u.now (subst (λ (s : System). AreFree (length (matrix_by c.args.net.now s).rows) c.args.u.now) c.in-Reactions.is c.requires.numbers)

pub reaction_sum-requires-clause-skips : goal.reaction_sum-requires-clause-skips
reaction_sum-requires-clause-skips c = subst (λ (s : System). FitSkips s c.args.u.now c.args.skips.now) c.in-Reactions.is c.requires.skips

pub reaction_sum-requires-clause-reaction : goal.reaction_sum-requires-clause-reaction
reaction_sum-requires-clause-reaction c =
    let same = ap (λ (s : System). (matrix_by c.args.net.now s).cols) c.in-Reactions.is in
    omega (arith, c.requires.place, same)

pub returns-in-Reactions : goal.returns-in-Reactions
returns-in-Reactions c =
    to_z-of_z w128 c.reaction_sum.result (record { sfits = c.reaction_sum.type_inv }) ∙ c.reaction_sum.ensures ∙ ap (λ (s : System). dot c.args.u.now (column (matrix_by c.args.net.now s).rows c.args.j)) (sym c.in-Reactions.is)

pub shape_sum-requires-clause-numbers : goal.shape_sum-requires-clause-numbers
shape_sum-requires-clause-numbers c =
    subst (λ (s : System). AreFree (length (matrix_by c.args.net.now s).rows) c.args.u.now) c.in-Shelves.is c.requires.numbers

pub shape_sum-requires-clause-place : goal.shape_sum-requires-clause-place
shape_sum-requires-clause-place c =
    let same = ap (λ (s : System). (matrix_by c.args.net.now s).cols) c.in-Shelves.is in
    omega (arith, c.requires.place, same)

pub returns-in-Shelves : goal.returns-in-Shelves
returns-in-Shelves c =
    to_z-of_z w128 c.shape_sum.result (record { sfits = c.shape_sum.type_inv }) ∙ c.shape_sum.ensures ∙ ap (λ (s : System). dot c.args.u.now (column (matrix_by c.args.net.now s).rows c.args.j)) (sym c.in-Shelves.is)
