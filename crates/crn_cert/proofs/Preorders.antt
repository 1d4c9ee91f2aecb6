-- Nodes in preorder are those of one tree.
use Rattle.crn_cert.proofs.Prelude.{◌∙◌, List, sym, ap, Listed, NodesAreOfOneTree, trees_of, first_tree, plan_back}

pub same_tree : NodesAreOfOneTree
same_tree s t nodes a b = sym (plan_back s) ∙ ap (λ (ls : List Listed). first_tree (trees_of ls)) (sym a ∙ b) ∙ plan_back t
