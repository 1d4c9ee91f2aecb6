-- Steps between nodes, as a list of arcs.
-- Source: this project's own.
-- Shapes: nodes and places of arcs count from 0. Nodes are complexes, or whatever else the caller numbers.
use Rattle.std.specs.Prelude.{◌≡◌, ◌<◌, ℕ, List, length, slice_index_or}
use Rattle.crn_graph.specs.declared.arcs.Arc.{Arc}

-- what is read past the end of a list of arcs
abbrev pub no_arc : Arc
no_arc = record { from = 0; to = 0; reaction = 0 }

-- the arc at a place
abbrev pub arc_at : List Arc → ℕ → Arc
arc_at arcs p = slice_index_or arcs p no_arc

-- some arc is a step from y to z by reaction r
pub record HasArc (arcs : List Arc) (r y z : ℕ) : Type 0 where
  pub place : ℕ
  pub inside : place < length arcs
  pub from_is : (arc_at arcs place).from ≡ y
  pub to_is : (arc_at arcs place).to ≡ z
  pub reaction_is : (arc_at arcs place).reaction ≡ r

-- every arc stays among this many complexes
pub record AreInside (complexes : ℕ) (arcs : List Arc) : Type 0 where
  pub from : (p : ℕ) → p < length arcs → (arc_at arcs p).from < complexes
  pub to : (p : ℕ) → p < length arcs → (arc_at arcs p).to < complexes
