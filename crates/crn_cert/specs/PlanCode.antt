-- The logic tells trees apart by their nodes in preorder. This says nothing of what a tree means.
-- Source: this project's own.
use Rattle.std.specs.Prelude.{◌≡◌, ℕ, zero, suc, ℤ, List, [], ◌∷◌, ◌++◌, refl}
use Rattle.std.specs.Coded.{Coded, code_by, coded×, coded_ℕ, coded_ℤ, coded_list}
use mathlib.Core.Path.{◌∙◌, sym, ap}
use mathlib.Core.List.{append_assoc, append-nil}
use Rattle.crn_cert.specs.Trees.{Plan, Both, Three, RulesA, RulesB, Level}
use Rattle.crn_cert.specs.Preorder.{Listed, ListedSplitTwo, ListedSplitThree, ListedCutA, ListedCutB, ListedFlat, preorder, split_two, split_three, trees_of, first_tree}

-- a listed node as a number for what it is, and its multipliers
abbrev node_number : Listed → ℕ × List ℤ
node_number ListedFlat = (0, [])
node_number ListedSplitTwo = (1, [])
node_number ListedSplitThree = (2, [])
node_number (ListedCutA u) = (3, u)
node_number (ListedCutB u) = (4, u)

-- the listed node of a number and multipliers
abbrev numbered_node : ℕ × List ℤ → Listed
numbered_node (zero, u) = ListedFlat
numbered_node (suc zero, u) = ListedSplitTwo
numbered_node (suc (suc zero), u) = ListedSplitThree
numbered_node (suc (suc (suc zero)), u) = ListedCutA u
numbered_node (suc (suc (suc (suc n))), u) = ListedCutB u

-- that is the node itself
pub number_back : (node : Listed) → numbered_node (node_number node) ≡ node
number_back ListedFlat = refl
number_back ListedSplitTwo = refl
number_back ListedSplitThree = refl
number_back (ListedCutA u) = refl
number_back (ListedCutB u) = refl

-- a listed node is stored as that pair
abbrev pub listed_code : Coded Listed
listed_code =
    code_by (ℕ × List ℤ) (coded× coded_ℕ (coded_list coded_ℤ)) node_number numbered_node number_back

-- the trees of a tree's nodes and of more nodes are the tree, and then the trees of those
pub trees_back : (tree : Plan) (more : List Listed)
    → trees_of (preorder tree ++ more) ≡ tree ∷ trees_of more
trees_back (Both z q) more =
    ap (λ (ls : List Listed). split_two (trees_of ls)) (append_assoc (preorder z) (preorder q) more)
    ∙ ap split_two (trees_back z (preorder q ++ more)
    ∙ ap (λ (ts : List Plan). z ∷ ts) (trees_back q more))
trees_back (Three z q m) more =
    ap (λ (ls : List Listed). split_three (trees_of ls))
    (append_assoc (preorder z ++ preorder q) (preorder m) more
    ∙ append_assoc (preorder z) (preorder q) (preorder m ++ more))
    ∙ ap split_three (trees_back z (preorder q ++ (preorder m ++ more))
    ∙ ap (λ (ts : List Plan). z ∷ ts) (trees_back q (preorder m ++ more)
    ∙ ap (λ (ts : List Plan). q ∷ ts) (trees_back m more)))
trees_back (RulesA u) more = refl
trees_back (RulesB u) more = refl
trees_back Level more = refl

-- the first tree of the nodes of a tree is the tree
pub plan_back : (tree : Plan) → first_tree (trees_of (preorder tree)) ≡ tree
plan_back tree =
    ap (λ (ls : List Listed). first_tree (trees_of ls)) (sym (append-nil (preorder tree)))
    ∙ ap first_tree (trees_back tree [])

-- a tree is stored as its nodes in preorder
abbrev pub plan_code : Coded Plan
plan_code =
    code_by (List Listed) (coded_list listed_code) preorder (λ ls. first_tree (trees_of ls)) plan_back
