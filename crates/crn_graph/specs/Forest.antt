-- Classes of nodes that arcs join, with a tree in each.
-- Source: this project's own.
-- Shapes: nodes count from 0, labels from 1.
use Rattle.std.specs.Prelude.{◌≡◌, ◌≤◌, ◌<◌, ℕ, suc, List, length, slice_index}
use Rattle.crn_cert.specs.ClassTests.{AreNumbered, IsTree}
use Rattle.crn_graph.specs.declared.arcs.Arc.{Arc}
use Rattle.crn_graph.specs.Arcs.{HasArc}

-- from the end of each arc another one leads back to its beginning
abbrev pub DoLeadBack : List Arc → Type 0
DoLeadBack arcs = (r y z : ℕ) → HasArc arcs r y z → (q : ℕ) × HasArc arcs q z y

-- the arc that y names leads to it from a node whose depth is less by one
pub record HangsByArc (arcs : List Arc) (up depth : List ℕ) (y : ℕ) : Type 0 where
  pub d : ℕ
  pub by_arc : HasArc arcs (slice_index up y) d y
  pub deeper : slice_index depth y ≡ suc (slice_index depth d)

-- labels count from 1 by first appearance, the ends of each arc have equal labels, and in the tree of each class every
-- node but the first hangs by an arc
pub record AreJoined (arcs : List Arc) (nodes count : ℕ) (labels up depth : List ℕ) : Type 0 where
  pub labels_long : length labels ≡ nodes
  pub up_long : length up ≡ nodes
  pub depth_long : length depth ≡ nodes
  pub few : count ≤ nodes
  pub numbered : AreNumbered labels count
  pub even : (r y z : ℕ) → HasArc arcs r y z → slice_index labels y ≡ slice_index labels z
  pub trees : (y : ℕ) → y < nodes → IsTree (HangsByArc arcs up depth) labels up depth y
  pub shallow : (y : ℕ) → y < nodes → slice_index depth y < nodes
