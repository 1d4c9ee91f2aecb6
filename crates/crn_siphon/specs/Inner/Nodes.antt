-- For the contracts of private functions alone.
-- Trees as lists of nodes in preorder.
-- Shapes: places of nodes and of laws count from 0.
use Rattle.std.specs.Prelude.{◌≡◌, ◌<◌, ◌+◌, ℕ, ℤ, List, length, slice_index_or}
use Rattle.crn_siphon_check.specs.Trees.{Plan, Fork as PlanFork, Bad as PlanBad, Law as PlanLaw, Void as PlanVoid}
use Rattle.crn_siphon.specs.declared.known.Fact.{Fact}
use Rattle.crn_siphon.specs.Inner.Known.{IsFactAt}
use Rattle.crn_siphon_check.specs.declared.tree_node.SiphonNode.{SiphonNode}
use Rattle.crn_siphon_check.specs.declared.tree_node.SiphonNode.TheVariants.{Fork, Bad, Law as LawAt, Void}

-- the node at this place
pub record IsNodeAt (nodes : List SiphonNode) (at : ℕ) (node : SiphonNode) : Type 0 where
  pub inside : at < length nodes
  pub is : slice_index_or nodes at Void ≡ node

-- the node is this tree of one node
abbrev pub IsLeaf : List Fact → Plan → SiphonNode → Type 0
IsLeaf laws (PlanFork inside outside) node = ⊥
IsLeaf laws (PlanBad r) node = node ≡ Bad r
IsLeaf laws (PlanLaw weights) node = (k : ℕ) × (node ≡ LawAt k) × IsFactAt laws k weights
IsLeaf laws PlanVoid node = node ≡ Void

-- some node at this place is a tree of one node, and the next place
abbrev pub HasLeafAt : List Fact → List SiphonNode → Plan → (at end : ℕ) → Type 0
HasLeafAt laws nodes tree at end = ((node : SiphonNode) × IsNodeAt nodes at node × IsLeaf laws tree node)
    × (end ≡ at + 1)

-- the nodes from this place to the end are those of the tree
abbrev pub Lists : List Fact → List SiphonNode → Plan → (at end : ℕ) → Type 0
Lists laws nodes (PlanFork inside outside) at end = IsNodeAt nodes at Fork
    × ((mid : ℕ) × Lists laws nodes inside (at + 1) mid × Lists laws nodes outside mid end)
Lists laws nodes (PlanBad r) at end = HasLeafAt laws nodes (PlanBad r) at end
Lists laws nodes (PlanLaw weights) at end = HasLeafAt laws nodes (PlanLaw weights) at end
Lists laws nodes PlanVoid at end = HasLeafAt laws nodes PlanVoid at end
