-- The nodes of a tree in preorder: each before the nodes of its children.
-- Source: preorder, Knuth, The Art of Computer Programming 1, section 2.3.2.
use Rattle.std.specs.Prelude.{◌≡◌, ℤ, List, [], ◌∷◌, ◌++◌, map}
use Rattle.crn_cert.specs.declared.tree_node.TreeNode.{TreeNode}
use Rattle.crn_cert.specs.declared.tree_node.TreeNode.TheVariants.{SplitTwo, SplitThree, CutA, CutB, Flat}
use Rattle.crn_cert.specs.Trees.{Plan, Both, Three, RulesA, RulesB, Level}

-- a node as it is listed, without the memory that it takes
pub data Listed : Type 0 where
  ListedSplitTwo : Listed
  ListedSplitThree : Listed
  ListedCutA : List ℤ → Listed
  ListedCutB : List ℤ → Listed
  ListedFlat : Listed

-- how a node is listed
abbrev pub listed : TreeNode → Listed
listed SplitTwo = ListedSplitTwo
listed SplitThree = ListedSplitThree
listed (CutA u) = ListedCutA u.value.list
listed (CutB u) = ListedCutB u.value.list
listed Flat = ListedFlat

-- the nodes of a tree in preorder
abbrev pub preorder : Plan → List Listed
preorder (Both zero plus) = ListedSplitTwo ∷ (preorder zero ++ preorder plus)
preorder (Three zero plus minus) =
    ListedSplitThree ∷ (preorder zero ++ preorder plus ++ preorder minus)
preorder (RulesA u) = ListedCutA u ∷ []
preorder (RulesB u) = ListedCutB u ∷ []
preorder Level = ListedFlat ∷ []

-- the trees that begin with a split into two: its children are the first two of those after it
abbrev pub split_two : List Plan → List Plan
split_two (zero ∷ plus ∷ trees) = Both zero plus ∷ trees
split_two trees = trees

-- the trees that begin with a split into three: its children are the first three of those after it
abbrev pub split_three : List Plan → List Plan
split_three (zero ∷ plus ∷ minus ∷ trees) = Three zero plus minus ∷ trees
split_three trees = trees

-- the trees whose nodes in preorder these are, one tree after another
abbrev pub trees_of : List Listed → List Plan
trees_of [] = []
trees_of (ListedSplitTwo ∷ more) = split_two (trees_of more)
trees_of (ListedSplitThree ∷ more) = split_three (trees_of more)
trees_of (ListedCutA u ∷ more) = RulesA u ∷ trees_of more
trees_of (ListedCutB u ∷ more) = RulesB u ∷ trees_of more
trees_of (ListedFlat ∷ more) = Level ∷ trees_of more

-- the first tree, or a leaf if there is none
abbrev pub first_tree : List Plan → Plan
first_tree [] = Level
first_tree (tree ∷ trees) = tree

-- the tree whose nodes in preorder these are
abbrev pub tree_of : List TreeNode → Plan
tree_of nodes = first_tree (trees_of (map listed nodes))

-- the nodes are those of the tree in preorder
abbrev pub AreNodesOf : Plan → List TreeNode → Type 0
AreNodesOf tree nodes = map listed nodes ≡ preorder tree

-- a list has the nodes of no more than one tree
abbrev pub NodesAreOfOneTree : Type 0
NodesAreOfOneTree = (tree other : Plan) (nodes : List TreeNode)
    → AreNodesOf tree nodes → AreNodesOf other nodes → tree ≡ other
