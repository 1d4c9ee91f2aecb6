-- For the contracts of private functions alone. The sides of cut pairs.
-- Source: this project's own.
-- Shapes: reactions count from 1, complexes from 0.
use Rattle.std.specs.Prelude.{ℕ, List}
use Rattle.std.specs.List.{AllZip}
use Rattle.crn_vec.specs.Lists.{IsIn}
use Rattle.crn_vec.specs.Network.{Net}
use Rattle.crn_graph.specs.Pair.{HasSide, HasWayRound}
use Rattle.crn_reg.specs.declared.sides.Sides.{Sides}
use Rattle.crn_reg.specs.declared.sides.Sides.TheVariants.{All, Cycle}

-- the sides of all these pairs, or a walk round one of them
abbrev pub GivesSides : Net → List ℕ → Sides → Type 0
GivesSides net pairs (All sides) = AllZip (HasSide net) pairs sides
GivesSides net pairs (Cycle r walk) = IsIn r pairs × HasWayRound net r walk.list
