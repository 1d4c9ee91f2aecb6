-- The tests of the nodes of a tree, each at its prefix.
-- Source: this project's own.
-- Shapes: the records of nodes count from 1 after the head.
use Rattle.std.specs.Prelude.{ℕ, ◌+◌, List, [], ◌∷◌, ◌++◌}
use Rattle.crn_vec.specs.declared.signs.Sign.{Sign}
use Rattle.crn_vec.specs.declared.signs.Sign.TheVariants.{Zero, Plus, Minus}
use Rattle.crn_cert.specs.Trees.{Plan, Both, Three, RulesA, RulesB, Level, node_count}
use Rattle.crn_cert.specs.Nodes.{Said, Splits, Flats, CutsA, CutsB}
use Rattle.crn_cert.specs.Tests.{Test, test}
use Rattle.crn_cert.specs.Faults.{BadLeaf, NodeNotAllowed}

-- the tests of the nodes in preorder, each of the node at its prefix; the first of them is record
-- `part`
abbrev pub tree_tests : (List Sign → Said → Type 0) → ℕ → List Sign → Plan → List Test
tree_tests Holds part p (Both zero plus) = test part NodeNotAllowed (Holds p Splits)
    ∷ (tree_tests Holds (part + 1) (p ++ Zero ∷ []) zero
    ++ tree_tests Holds (part + 1 + node_count zero) (p ++ Plus ∷ []) plus)
tree_tests Holds part p (Three zero plus minus) =
    test part NodeNotAllowed (Holds p Splits)
    ∷ (tree_tests Holds (part + 1) (p ++ Zero ∷ []) zero
    ++ tree_tests Holds (part + 1 + node_count zero) (p ++ Plus ∷ []) plus
    ++ tree_tests Holds (part + 1 + node_count zero + node_count plus) (p ++ Minus ∷ []) minus)
tree_tests Holds part p (RulesA u) = test part BadLeaf (Holds p (CutsA u)) ∷ []
tree_tests Holds part p (RulesB u) = test part BadLeaf (Holds p (CutsB u)) ∷ []
tree_tests Holds part p Level = test part NodeNotAllowed (Holds p Flats) ∷ []
