-- For the contracts of private functions alone.
-- How the visits of a prefix of sets of species, of its children and of all below them end.
-- Shapes: `left` visits are allowed where it begins, and `after` where it ends; a search is given before and after.
use Rattle.std.specs.Prelude.{◌≡◌, ◌+◌, ◌++◌, ℕ, ℤ, false, true, Bool, List, [], ◌∷◌, length, map, Option, None, Some, IfSome}
use Rattle.crn_vec.specs.Network.{Net}
use Rattle.crn_vec.specs.NetSystems.{reaction_system}
use Rattle.crn_cert.specs.Ranges.{AreFree}
use Rattle.crn_siphon_check.specs.Siphons.{Covers}
use Rattle.crn_siphon_check.specs.Prefixes.{IsBad, IsFull, Stands}
use Rattle.crn_siphon_check.specs.Trees.{Plan, Fork, IsFormedTree, IsValidTree, node_count}
use Rattle.crn_siphon_check.specs.SiphonVisits.{Visits, Passes, children}
use Rattle.crn_siphon.specs.declared.sets.SpeciesSet.{SpeciesSet}
use Rattle.crn_siphon.specs.declared.search.Search.{Search}
use Rattle.crn_siphon.specs.declared.search.End.{End}
use Rattle.crn_siphon.specs.declared.search.End.TheVariants.{Found, Refuted, Spent}
use Rattle.crn_siphon_check.specs.declared.tree_node.SiphonNode.TheVariants.{Fork as NodeFork}
use Rattle.crn_siphon.specs.declared.known.Known.{Known}
use Rattle.crn_siphon.specs.Inner.Sets.{mark, marks}
use Rattle.crn_siphon.specs.declared.place.Place.{Place}
use Rattle.crn_siphon.specs.declared.search.Standing.{Standing}
use Rattle.crn_siphon.specs.declared.search.Standing.TheVariants.{Stops, Stands as StandsAt}
use Rattle.crn_siphon.specs.Inner.Places.{AreAllHolders, NoneStops}
use Rattle.crn_siphon.specs.Inner.Known.{HasMore, IsFactAt, IsKnown}
use Rattle.crn_siphon.specs.Inner.Nodes.{IsLeaf, Lists}

-- a solver is that of system 2, the reactions are those that hold each species, and what is known holds
pub record IsReady (net : Net) (s : Search) : Type 0 where
  pub solver : IfSome s.solvers.solver (λ x. x.matrix ≡ reaction_system net)
  pub holders : AreAllHolders net (length net.names) s.holders.items
  pub known : IsKnown net s.known

-- no reaction stops the prefix
abbrev pub HasNoBad : Net → List Bool → Type 0
HasNoBad net p = (r : ℕ) → IsBad net p r → ⊥

-- a tree of one node that is valid at the prefix, which does not stand
pub record IsLeafAt (net : Net) (p : List Bool) (tree : Plan) : Type 0 where
  pub valid : IsValidTree net p tree
  pub formed : IsFormedTree net (length p) tree
  pub one : node_count tree ≡ 1
  pub none : Stands net p → ⊥

-- numbers that increase each species that is in, and the prefix stands
pub record IsStanding (net : Net) (p : List Bool) (cover : List ℤ) : Type 0 where
  pub free : AreFree (length net.reactions) cover
  pub covers : Covers net p cover
  pub stands : Stands net p

-- numbers at this place cover the prefix, which stands
abbrev pub StandsBy : Net → List Bool → Known → (k : ℕ) → Type 0
StandsBy net p known k = (numbers : List ℤ) × IsFactAt known.covers.items k numbers
    × IsStanding net p numbers

-- a node that stops the prefix, or it stands
abbrev pub IsShown : Net → List Bool → Known → Standing → Type 0
IsShown net p known (Stops node) = (tree : Plan) × IsLeafAt net p tree
    × IsLeaf known.laws.items tree node
IsShown net p known (StandsAt k) = StandsBy net p known k

-- if it stands, no reaction stops the place
abbrev pub NoneStopsIf : Net → Place → Standing → Type 0
NoneStopsIf net place (Stops node) = Unit {0}
NoneStopsIf net place (StandsAt k) = NoneStops net place

-- laws and nodes are put at the end alone
pub record HasGrown (before after : Search) : Type 0 where
  pub laws : HasMore before.known.laws.items after.known.laws.items
  pub nodes : HasMore before.nodes.items after.nodes.items

-- marks of a full prefix that stands, and numbers that increase each member
pub record IsFoundBy (net : Net) (marks cover : List ℤ) : Type 0 where
  pub set : List Bool
  pub marked : marks ≡ map mark set
  pub full : IsFull net set
  pub standing : IsStanding net set cover

-- so many prefixes are visited of what is due, and whether a full one that stands ends them
pub record AreVisited (net : Net) (due : List (List Bool)) (found : Bool) (count : ℕ) : Type 0 where
  pub visits : List (List Bool)
  pub are : Visits net due visits found
  pub long : length visits ≡ count

-- the visits of what is due exceed those that are allowed
pub record RunsOut (net : Net) (due : List (List Bool)) (left after : ℕ) : Type 0 where
  pub passes : Passes net due left
  pub none : after ≡ 0

-- a tree that is valid at the prefix
abbrev pub IsTreeAt : Net → List Bool → Plan → Type 0
IsTreeAt net p tree = IsValidTree net p tree × IsFormedTree net (length p) tree

-- the visits of a prefix, and of all below it, end with this tree
abbrev pub EndsWithTree : Net → List Bool → (left after : ℕ) → Plan → Type 0
EndsWithTree net p left after tree = IsTreeAt net p tree
    × AreVisited net (p ∷ []) false (node_count tree) × (node_count tree + after ≡ left)

-- the visits of a prefix's children, and of all below them, end with this tree, which has the node
-- of the prefix too
abbrev pub EndsBelowWithTree : Net → List Bool → (left after : ℕ) → Plan → Type 0
EndsBelowWithTree net p left after tree = IsTreeAt net p tree
    × ((n : ℕ) × (node_count tree ≡ 1 + n) × AreVisited net (children p) false n
    × (n + after ≡ left))

-- the visits of what is due end with a full prefix that stands
abbrev pub EndsWithSet : Net → List (List Bool) → (left after : ℕ) → (marks cover : List ℤ) → Type 0
EndsWithSet net due left after marks cover = IsFoundBy net marks cover
    × ((n : ℕ) × AreVisited net due true n × (n + after ≡ left))

-- the nodes that were put at the end are those of the tree
abbrev pub HasPut : (before after : Search) → Plan → Type 0
HasPut before after tree = Lists after.known.laws.items after.nodes.items tree
    (length before.nodes.items) (length after.nodes.items)

-- and so are those of two trees, one after the other
pub record ArePut (before after : Search) (first second : Plan) : Type 0 where
  pub mid : ℕ
  pub inside : Lists after.known.laws.items after.nodes.items first
      (length before.nodes.items) mid
  pub outside : Lists after.known.laws.items after.nodes.items second mid
      (length after.nodes.items)

-- what the visit of a prefix shows: the node of a tree that stops it, or it stands and a fork was put
abbrev pub IsVisit : Net → List Bool → (before after : Search) → Option ℕ → Type 0
IsVisit net p before after None = (tree : Plan) × IsLeafAt net p tree × HasPut before after tree
IsVisit net p before after (Some k) = StandsBy net p after.known k
    × (after.nodes.items ≡ before.nodes.items ++ NodeFork ∷ [])

-- they end with a full prefix that stands, that of the set, and numbers at this place cover it
pub record EndsFound (net : Net) (due : List (List Bool)) (before after : Search) (set : SpeciesSet) (cover : ℕ) : Type 0 where
  pub numbers : List ℤ
  pub at : IsFactAt after.known.covers.items cover numbers
  pub ends : EndsWithSet net due before.left after.left (marks set (length net.names)) numbers

-- what the visits of a prefix, and of all below it, end with
abbrev pub EndsAt : Net → List Bool → (before after : Search) → End → Type 0
EndsAt net p before after (Found inside cover) = EndsFound net (p ∷ []) before after inside cover
EndsAt net p before after Refuted = (tree : Plan)
    × EndsWithTree net p before.left after.left tree × HasPut before after tree
EndsAt net p before after Spent = RunsOut net (p ∷ []) before.left after.left

-- what the visits of a prefix's children, and of all below them, end with
abbrev pub EndsBelow : Net → List Bool → (before after : Search) → End → Type 0
EndsBelow net p before after (Found inside cover) =
    EndsFound net (children p) before after inside cover
EndsBelow net p before after Refuted = (inside outside : Plan)
    × EndsBelowWithTree net p before.left after.left (Fork inside outside)
    × ArePut before after inside outside
EndsBelow net p before after Spent = RunsOut net (children p) before.left after.left
