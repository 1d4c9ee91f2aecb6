-- The logic tells trees apart by their nodes in preorder. This says nothing of what a tree means.
-- Source: this project's own.
use Rattle.std.specs.Prelude.{◌≡◌, ℕ, zero, suc, ℤ, List, [], ◌∷◌, ◌++◌, refl}
use Rattle.std.specs.Coded.{Coded, code_by, coded×, coded_ℕ, coded_ℤ, coded_list}
use mathlib.Core.Path.{◌∙◌, sym, ap}
use mathlib.Core.List.{append_assoc, append-nil}
use Rattle.crn_siphon_check.specs.Trees.{Plan, Fork, Bad, Law, Void}
use Rattle.crn_siphon_check.specs.Preorder.{Listed, ListedFork, ListedBad, ListedLaw, ListedVoid, preorder, forked, trees_of, first_tree}

-- a listed node as a number for what it is, its reaction and its weights
abbrev node_number : Listed → ℕ × (ℕ × List ℤ)
node_number ListedFork = (0, (0, []))
node_number ListedVoid = (1, (0, []))
node_number (ListedBad r) = (2, (r, []))
node_number (ListedLaw weights) = (3, (0, weights))

-- the listed node of such numbers
abbrev numbered_node : ℕ × (ℕ × List ℤ) → Listed
numbered_node (zero, (r, weights)) = ListedFork
numbered_node (suc zero, (r, weights)) = ListedVoid
numbered_node (suc (suc zero), (r, weights)) = ListedBad r
numbered_node (suc (suc (suc n)), (r, weights)) = ListedLaw weights

-- that is the node itself
pub number_back : (node : Listed) → numbered_node (node_number node) ≡ node
number_back ListedFork = refl
number_back ListedVoid = refl
number_back (ListedBad r) = refl
number_back (ListedLaw weights) = refl

-- a listed node is stored as those numbers
abbrev pub listed_code : Coded Listed
listed_code = code_by (ℕ × (ℕ × List ℤ)) (coded× coded_ℕ (coded× coded_ℕ (coded_list coded_ℤ)))
    node_number numbered_node number_back

-- the trees of a tree's nodes and of more nodes are the tree, and then the trees of those
pub trees_back : (tree : Plan) (more : List Listed)
    → trees_of (preorder tree ++ more) ≡ tree ∷ trees_of more
trees_back (Fork a b) more =
    ap (λ (ls : List Listed). forked (trees_of ls)) (append_assoc (preorder a) (preorder b) more)
    ∙ ap forked (trees_back a (preorder b ++ more)
    ∙ ap (λ (ts : List Plan). a ∷ ts) (trees_back b more))
trees_back (Bad r) more = refl
trees_back (Law weights) more = refl
trees_back Void more = refl

-- the first tree of the nodes of a tree is the tree
pub plan_back : (tree : Plan) → first_tree (trees_of (preorder tree)) ≡ tree
plan_back tree =
    ap (λ (ls : List Listed). first_tree (trees_of ls)) (sym (append-nil (preorder tree)))
    ∙ ap first_tree (trees_back tree [])

-- a tree is stored as its nodes in preorder
abbrev pub plan_code : Coded Plan
plan_code =
    code_by (List Listed) (coded_list listed_code) preorder (λ ls. first_tree (trees_of ls)) plan_back
