use Rattle.crn_ctext.proofs.Prelude.{◌∙◌, sym, ap, List, ℕ, ◌++◌, err_from_is_err_and, WrotePrefix-more, Wrote-prefix, nodes, record_lines, written}
use Rattle.crn_ctext.proofs.Pieces.{ends_with, wrote_as}
use Rattle.crn_ctext.proofs.WrittenLeaves.{written_lines, leaves_append}
use Rattle.crn_ctext.proofs.write_tree.put_trees.Goals as goal

pub returns-in_err-leaf-in-Two-clause-wrote : goal.returns-in_err-leaf-in-Two-clause-wrote
returns-in_err-leaf-in-Two-clause-wrote g c =
    let p = err_from_is_err_and c.from_residual.result c.from_residual.ensures.1 in
    rw c.in-Two.is (wrote_as (written_lines c.args.leaf.now (nodes c.in-Two.tree) (nodes c.in-Two.other)) (Wrote-prefix p.1 (WrotePrefix-more _ c.in_err-leaf-in-Two.ensures.wrote.prefix)))

pub returns-in_ok-leaf-in-Two-clause-wrote : goal.returns-in_ok-leaf-in-Two-clause-wrote
returns-in_ok-leaf-in-Two-clause-wrote g c =
    let e = written_lines c.args.leaf.now (nodes c.in-Two.tree) (nodes c.in-Two.other) ∙ ap (λ (t : List ℕ). record_lines (written c.args.leaf.now (nodes c.in-Two.tree)) ++ record_lines (written t (nodes c.in-Two.other))) (sym c.in_ok-leaf-in-Two.ensures.rest) in
    rw c.in-Two.is (ends_with e c.in_ok-leaf-in-Two.ensures.wrote.all c.put_tree-in-Two-2.ensures.wrote)

pub returns-in_ok-leaf-in-Two-clause-rest : goal.returns-in_ok-leaf-in-Two-clause-rest
returns-in_ok-leaf-in-Two-clause-rest g c =
    rw c.in-Two.is (rw (leaves_append c.args.leaf.now (nodes c.in-Two.tree) (nodes c.in-Two.other), ← c.in_ok-leaf-in-Two.ensures.rest) c.put_tree-in-Two-2.ensures.rest)
