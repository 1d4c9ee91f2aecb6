-- For the contracts of private functions alone.
-- Complexes of one strong class, by arcs.
-- Shapes: complexes are counted from 0.
use Rattle.std.specs.Prelude.{ℕ, List}
use Rattle.crn_vec.specs.Walks.{LeadsTo}
use Rattle.crn_graph.specs.declared.arcs.Arc.{Arc}
use Rattle.crn_graph.specs.Inner.Search.{Steps}

-- arcs lead from each to the other
abbrev pub AreStrong : List Arc → ℕ → ℕ → Type 0
AreStrong arcs y z = LeadsTo (Steps arcs) y z × LeadsTo (Steps arcs) z y
