use Rattle.crn_siphon_check.proofs.Prelude.{◌≡◌, ◌∙◌, List, sym, ap, Listed, weights_of, tree_of, preorder, trees_of, first_tree, plan_back}
use Rattle.crn_siphon_check.proofs.tree.SiphonTree.new.Goals as goal

pub invariant_of-result : goal.invariant_of-result
invariant_of-result c =
    let same : tree_of (weights_of c.args.laws.items) c.args.nodes.items ≡ c.requires.0 = ap (λ (ls : List Listed). first_tree (trees_of ls)) c.requires.1 ∙ plan_back c.requires.0 in
    c.requires.1 ∙ ap preorder (sym same)

pub returns : goal.returns
returns c =
    let same : tree_of (weights_of c.args.laws.items) c.args.nodes.items ≡ c.requires.0 = ap (λ (ls : List Listed). first_tree (trees_of ls)) c.requires.1 ∙ plan_back c.requires.0 in
    c.requires.1 ∙ ap preorder (sym same)
