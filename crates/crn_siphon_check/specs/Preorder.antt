-- The nodes of a tree in preorder: each before the nodes of its children.
-- Source: preorder, Knuth, The Art of Computer Programming 1, section 2.3.2.
-- Shapes: places of laws count from 0.
use Rattle.std.specs.Prelude.{◌≡◌, ℕ, ℤ, List, [], ◌∷◌, ◌++◌, map, slice_index_or}
use Rattle.crn_vec.specs.Kept.{KeptInts}
use Rattle.crn_siphon_check.specs.Trees.{Plan, Fork, Bad, Law, Void}
use Rattle.crn_siphon_check.specs.declared.tree_node.SiphonNode.{SiphonNode}
use Rattle.crn_siphon_check.specs.declared.tree_node.SiphonNode.TheVariants.{Fork as ForkNode, Bad as BadNode, Law as LawNode, Void as VoidNode}

-- a node as it is listed, with the weights of its law
pub data Listed : Type 0 where
  ListedFork : Listed
  ListedBad : ℕ → Listed
  ListedLaw : List ℤ → Listed
  ListedVoid : Listed

-- the weights of each law
abbrev pub weights_of : List KeptInts → List (List ℤ)
weights_of laws = map (λ law. law.list) laws

-- how a node is listed
abbrev pub listed : (laws : List (List ℤ)) → SiphonNode → Listed
listed laws ForkNode = ListedFork
listed laws (BadNode r) = ListedBad r
listed laws (LawNode k) = ListedLaw (slice_index_or laws k [])
listed laws VoidNode = ListedVoid

-- the nodes of a tree in preorder
abbrev pub preorder : Plan → List Listed
preorder (Fork inside outside) = ListedFork ∷ (preorder inside ++ preorder outside)
preorder (Bad r) = ListedBad r ∷ []
preorder (Law weights) = ListedLaw weights ∷ []
preorder Void = ListedVoid ∷ []

-- the trees that begin with a fork: its children are the first two of those after it
abbrev pub forked : List Plan → List Plan
forked (inside ∷ outside ∷ trees) = Fork inside outside ∷ trees
forked trees = trees

-- the trees whose nodes in preorder these are, one tree after another
abbrev pub trees_of : List Listed → List Plan
trees_of [] = []
trees_of (ListedFork ∷ more) = forked (trees_of more)
trees_of (ListedBad r ∷ more) = Bad r ∷ trees_of more
trees_of (ListedLaw weights ∷ more) = Law weights ∷ trees_of more
trees_of (ListedVoid ∷ more) = Void ∷ trees_of more

-- the first tree, or a leaf if there is none
abbrev pub first_tree : List Plan → Plan
first_tree [] = Void
first_tree (tree ∷ trees) = tree

-- the tree whose nodes in preorder these are
abbrev pub tree_of : (laws : List (List ℤ)) → List SiphonNode → Plan
tree_of laws nodes = first_tree (trees_of (map (listed laws) nodes))

-- the nodes are those of the tree in preorder
abbrev pub AreNodesOf : Plan → (laws : List (List ℤ)) → List SiphonNode → Type 0
AreNodesOf tree laws nodes = map (listed laws) nodes ≡ preorder tree
