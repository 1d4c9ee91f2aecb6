-- For the contracts of private functions alone.
-- Chains of the arcs from each complex.
-- Shapes: complexes and places of arcs are counted from 0. A chain is one more than the place of its first arc, or 0.
use Rattle.std.specs.Prelude.{◌≡◌, ◌≤◌, ◌<◌, ◌+◌, ℕ, List, length, slice_index}
use Rattle.crn_graph.specs.declared.arcs.Arc.{Arc}
use Rattle.crn_graph.specs.Arcs.{arc_at}

-- what contracts see of a graph
pub record KeptGraph : Type 0 where
  pub complexes : ℕ
  pub arcs : List Arc

-- the chain of the arcs from y at places before a limit: its first arc is the latest of them
pub record IsNext (arcs : List Arc) (y limit chain : ℕ) : Type 0 where
  pub inside : chain ≤ limit
  pub its_own : (p : ℕ) → p + 1 ≡ chain → (arc_at arcs p).from ≡ y
  pub others : (p : ℕ) → chain ≤ p → p < limit → (arc_at arcs p).from ≡ y → ⊥

-- the arcs before a limit are in chains, one for each complex
pub record IsChained (arcs : List Arc) (limit : ℕ) (first next : List ℕ) : Type 0 where
  pub long : length next ≡ length arcs
  pub firsts : (y : ℕ) → y < length first → IsNext arcs y limit (slice_index first y)
  pub nexts : (p : ℕ) → p < limit → IsNext arcs (arc_at arcs p).from p (slice_index next p)
