-- Laws of trees.
-- Source: this project's own.
use Rattle.std.specs.Prelude.{◌↔◌, ℕ, List, []}
use Rattle.crn_vec.specs.declared.signs.Sign.{Sign}
use Rattle.crn_vec.specs.Problems.{Signed, IsFull, IsSteady, IsFeasible}
use Rattle.crn_cert.specs.Trees.{Plan, IsFormedTree, IsValid}
use Rattle.crn_cert.specs.Nodes.{Fits}
use Rattle.crn_cert.specs.Tests.{AllHold}
use Rattle.crn_cert.specs.TreeTests.{tree_tests}

-- if a tree is valid at the empty prefix, no full prefix is feasible
abbrev pub ValidTreesLeaveNothing : Type 0
ValidTreesLeaveNothing = (w : Signed) (tree : Plan) (p : List Sign) → IsSteady w → IsValid w [] tree
    → IsFull w p → IsFeasible w p → ⊥

-- the tests of a formed tree hold if and only if the tree is valid
abbrev pub TestsDecideValidTrees : Type 0
TestsDecideValidTrees = (w : Signed) (rows_a rows_b part : ℕ) (p : List Sign) (tree : Plan)
    → IsFormedTree w.choices rows_a rows_b p tree
    → AllHold (tree_tests (Fits w) part p tree) ↔ IsValid w p tree
