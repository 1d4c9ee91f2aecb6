-- For the contracts of private functions alone.
-- How the visits of a prefix, of its children and of all below them end.
-- Shapes: `left` visits are allowed where it begins, and `after` where it ends; `old` is the listing
-- of nodes where it begins, and `new` that where it ends. `due` lists the prefixes that are to
-- be visited with all below them.
use Rattle.std.specs.Prelude.{◌≡◌, ◌+◌, ℕ, ℤ, true, false, List, [], ◌∷◌, ◌++◌, length, map, Bool}
use Rattle.crn_vec.specs.declared.signs.Sign.{Sign}
use Rattle.crn_vec.specs.Problems.{Signed, IsFeasible, SolvesA, SolvesB, children}
use Rattle.crn_vec.specs.Visits.{Visits, Passes}
use Rattle.crn_cert.specs.declared.tree_node.TreeNode.{TreeNode}
use Rattle.crn_cert.specs.declared.tree_node.TreeNode.TheVariants.{SplitTwo, SplitThree}
use Rattle.crn_cert.specs.Trees.{Plan, places}
use Rattle.crn_cert.specs.Preorder.{AreNodesOf, listed, preorder}
use Rattle.crn_farkas.specs.declared.fault.Stop.{Stop}
use Rattle.crn_farkas.specs.declared.fault.Stop.TheVariants.{Wide, NoMemory as StopMemory}
use Rattle.crn_sign.specs.declared.end.SearchEnd.{SearchEnd}
use Rattle.crn_sign.specs.declared.end.SearchEnd.TheVariants.{Found as FoundEnd, Refuted as RefutedEnd, Infeasible as InfeasibleEnd, Spent as SpentEnd}
use Rattle.crn_sign.specs.declared.fault.SearchStop.{SearchStop}
use Rattle.crn_sign.specs.declared.fault.SearchStop.TheVariants.{WideA, WideB, NoMemory}
use Rattle.crn_sign.specs.declared.walk.Level.{Level}
use Rattle.crn_sign.specs.declared.walk.Listing.{Listing}
use Rattle.crn_sign.specs.declared.walk.Ending.{Ending}
use Rattle.crn_sign.specs.declared.walk.Ending.TheVariants.{Found, Refuted, Spent}
use Rattle.crn_sign.specs.Search.{IsFeasibleBy, IsTreeAt}
use Rattle.crn_sign.specs.Inner.Ready.{IsLevel}

-- the visits of what is due end with the full feasible prefix q
pub record EndsWith (w : Signed) (due : List (List Sign)) (left after : ℕ) (q : List Sign)
    : Type 0 where
  pub before : List (List Sign)
  pub visits : Visits w due (before ++ q ∷ []) true
  pub count : length (before ++ q ∷ []) + after ≡ left

-- the visits of what is due are these, and none is a full feasible prefix
pub record EndsWithout (w : Signed) (due list : List (List Sign)) (left after : ℕ) : Type 0 where
  pub visits : Visits w due list false
  pub count : length list + after ≡ left

-- the visits of what is due exceed those that are allowed
pub record RunsOut (w : Signed) (due : List (List Sign)) (left after : ℕ) : Type 0 where
  pub passes : Passes w due left
  pub none : after ≡ 0

-- if nodes are kept, those of the tree were put at the end of the old ones
pub record Appends (old new : Listing) (tree : Plan) : Type 0 where
  pub keeps : new.keeps ≡ old.keeps
  pub nodes : old.keeps ≡ true
      → map listed new.nodes.items ≡ map listed old.nodes.items ++ preorder tree

-- a tree of one node is valid at the prefix, which is not feasible, and the node was listed
pub record IsLeafAt (w : Signed) (p : List Sign) (old new : Listing) : Type 0 where
  pub tree : Plan
  pub appends : Appends old new tree
  pub tree_at : IsTreeAt w p tree
  pub one : places p tree ≡ p ∷ []
  pub none : IsFeasible w p → ⊥

-- the prefix has a leaf, or nothing was listed
abbrev pub MayListLeaf : Signed → List Sign → Listing → Listing → Bool → Type 0
MayListLeaf w p old new true = IsLeafAt w p old new
MayListLeaf w p old new false = new ≡ old

-- what both parts know at the prefix, unless it has a leaf
abbrev pub IsLevelUnless : Bool → Signed → List ℕ → List Sign → Level → Type 0
IsLevelUnless true w weak p l = Unit {0}
IsLevelUnless false w weak p l = IsLevel w weak p l

-- both parts of the prefix have solutions, unless it has a leaf
abbrev pub IsSolvedUnless : Bool → Signed → List Sign → Type 0
IsSolvedUnless true w p = Unit {0}
IsSolvedUnless false w p = ((x : List ℤ) × SolvesB w p x) × ((x : List ℤ) × SolvesA w p x)

-- the node of a prefix that is split, by whether it has zeros alone
abbrev pub split_node : Bool → TreeNode
split_node true = SplitTwo
split_node false = SplitThree

-- what the visit of a prefix, and of all below it, ends with
abbrev pub EndsAt : Signed → List Sign → ℕ → ℕ → Listing → Listing → Ending → Type 0
EndsAt w p left after old new (Found f) =
    IsFeasibleBy w f.value.pattern f.value.a.list f.value.b.list
    × EndsWith w (p ∷ []) left after f.value.pattern
EndsAt w p left after old new Refuted = (tree : Plan) × Appends old new tree
    × IsTreeAt w p tree × EndsWithout w (p ∷ []) (places p tree) left after
EndsAt w p left after old new Spent = RunsOut w (p ∷ []) left after

-- the visits of a tree's nodes below its root
pub record BelowRoot (w : Signed) (p : List Sign) (tree : Plan) (left after : ℕ) : Type 0 where
  pub rest : List (List Sign)
  pub places_are : places p tree ≡ p ∷ rest
  pub ends : EndsWithout w (children p) rest left after

-- what the visits of a prefix's children, and of all below them, end with
abbrev pub EndsBelow : Signed → List Sign → ℕ → ℕ → Listing → Listing → Ending → Type 0
EndsBelow w p left after old new (Found f) =
    IsFeasibleBy w f.value.pattern f.value.a.list f.value.b.list
    × EndsWith w (children p) left after f.value.pattern
EndsBelow w p left after old new Refuted = (tree : Plan) × Appends old new tree
    × IsTreeAt w p tree × BelowRoot w p tree left after
EndsBelow w p left after old new Spent = RunsOut w (children p) left after

-- the full prefix, with solutions of its parts
abbrev pub IsFoundAt : Signed → List Sign → Ending → Type 0
IsFoundAt w p (Found f) = (f.value.pattern ≡ p)
    × IsFeasibleBy w p f.value.a.list f.value.b.list
IsFoundAt w p Refuted = ⊥
IsFoundAt w p Spent = ⊥

-- the nodes are those of a tree, if visits that ended so made one
abbrev pub HasTree : Ending → List TreeNode → Type 0
HasTree (Found f) nodes = Unit {0}
HasTree Refuted nodes = (tree : Plan) × AreNodesOf tree nodes
HasTree Spent nodes = Unit {0}

-- how a search ended whose visits ended so, and listed these nodes if a tree is kept
abbrev pub IsEndOf : Bool → Ending → List TreeNode → SearchEnd → Type 0
IsEndOf keeps (Found f) nodes e = e ≡ FoundEnd f.value.pattern f.value.a f.value.b
IsEndOf true Refuted nodes e = (tree : Plan) × (e ≡ RefutedEnd tree) × AreNodesOf tree nodes
IsEndOf false Refuted nodes e = e ≡ InfeasibleEnd
IsEndOf keeps Spent nodes e = e ≡ SpentEnd

-- the stop of part A's solver as the stop of the search
abbrev pub IsWideA : Stop → SearchStop → Type 0
IsWideA (Wide index basis) s = s ≡ WideA index basis
IsWideA StopMemory s = s ≡ NoMemory

-- the stop of part B's solver, at the first system that is left to it or at a later one, as the stop
-- of the search
abbrev pub IsWideB : Bool → Stop → SearchStop → Type 0
IsWideB is_first (Wide index basis) s = s ≡ WideB index basis is_first
IsWideB is_first StopMemory s = s ≡ NoMemory
