-- For the contracts of private functions alone.
-- The steps of a network that a search may take, as a list of arcs.
-- Shapes: complexes and places of arcs are counted from 0, reactions from 1.
use Rattle.std.specs.Prelude.{◌≡◌, ◌≤◌, ◌⊎◌, ℕ, List, slice_index}
use Rattle.crn_vec.specs.Network.{Net}
use Rattle.crn_vec.specs.CutPairs.{IsBetween}
use Rattle.crn_cert.specs.Says.{IsReactionNumber}
use Rattle.crn_graph.specs.declared.arcs.Arc.{Arc}
use Rattle.crn_graph.specs.Arcs.{HasArc}
use Rattle.crn_graph.specs.declared.arcs.Way.{Way}
use Rattle.crn_graph.specs.declared.arcs.Way.TheVariants.{Along, Against, Links, Round}

-- a reaction from a to b allows a step from y to z
abbrev pub Allows : Way → ℕ → ℕ → ℕ → ℕ → Type 0
Allows Along a b y z = (y ≡ a) × (z ≡ b)
Allows Against a b y z = (y ≡ b) × (z ≡ a)
Allows Links a b y z = IsBetween a b y z
Allows (Round c d) a b y z = IsBetween a b y z × (IsBetween c d a b → ⊥)

-- reaction r allows a step from y to z
pub record Goes (net : Net) (way : Way) (r y z : ℕ) : Type 0 where
  pub a : ℕ
  pub b : ℕ
  pub is : IsReactionNumber net r a b
  pub allows : Allows way a b y z

-- the new list has the arcs of the old one, and those of a reaction from a to b
pub record Adds (way : Way) (a b reaction : ℕ) (old new : List Arc) : Type 0 where
  pub same : (r y z : ℕ) → HasArc old r y z → HasArc new r y z
  pub made : (y z : ℕ) → Allows way a b y z → HasArc new reaction y z
  pub only : (r y z : ℕ) → HasArc new r y z → HasArc old r y z ⊎ ((r ≡ reaction) × Allows way a b y z)

-- the arcs are the steps that the reactions up to a number allow
pub record AreArcsTo (net : Net) (way : Way) (count : ℕ) (arcs : List Arc) : Type 0 where
  pub sound : (r y z : ℕ) → HasArc arcs r y z → Goes net way r y z
  pub whole : (r y z : ℕ) → r ≤ count → Goes net way r y z → HasArc arcs r y z

-- the arcs are the steps of the network
pub record AreArcsOf (net : Net) (way : Way) (arcs : List Arc) : Type 0 where
  pub sound : (r y z : ℕ) → HasArc arcs r y z → Goes net way r y z
  pub whole : (r y z : ℕ) → Goes net way r y z → HasArc arcs r y z

-- the arcs are the steps of the network between complexes of equal rank
pub record AreArcsWithin (net : Net) (way : Way) (ranks : List ℕ) (arcs : List Arc) : Type 0 where
  pub sound : (r y z : ℕ) → HasArc arcs r y z → Goes net way r y z × (slice_index ranks y ≡ slice_index ranks z)
  pub whole : (r y z : ℕ) → Goes net way r y z → slice_index ranks y ≡ slice_index ranks z → HasArc arcs r y z
