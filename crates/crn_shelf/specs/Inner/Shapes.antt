-- For the contracts of private functions alone.
-- What the searches over the shape of a network and of a vector give.
-- Source: this project's own.
use Rattle.std.specs.Prelude.{ℕ, ℤ, List}
use Rattle.crn_vec.specs.Network.{Net}
use Rattle.crn_vec.specs.NetSystems.{reaction_system}
use Rattle.crn_vec.specs.Elementary.{NamesWide}
use Rattle.crn_vec.specs.Signals.{Shape, shelf_matrix, signals}
use Rattle.crn_vec.specs.NetSignals.{IsShapeOf}
use Rattle.crn_sign.specs.declared.end.SearchEnd.{SearchEnd}
use Rattle.crn_sign.specs.declared.fault.SearchStop.{SearchStop}
use Rattle.crn_sign.specs.declared.fault.SearchStop.TheVariants.{WideA, WideB, NoMemory}
use Rattle.crn_sign.specs.Search.{IsSearchEnd}

-- the end of a search over the signals of g
abbrev pub EndsFor : Net → List ℤ → ℕ → SearchEnd → Type 0
EndsFor net g budget e = (s : Shape) × IsShapeOf net g s
    × IsSearchEnd (signals s (reaction_system net)) budget e

-- why a search over the signals of g stops: a wide vector of system 5 or of system 2, or memory
abbrev pub StopsFor : Net → List ℤ → SearchStop → Type 0
StopsFor net g (WideA index basis) = (s : Shape) × IsShapeOf net g s
    × NamesWide (shelf_matrix s) index basis.list
StopsFor net g (WideB index basis is_first) = NamesWide (reaction_system net) index basis.list
StopsFor net g NoMemory = Unit {0}
