-- The rows of the systems of a network.
-- Source: this project's own numbering of the systems.
use Rattle.std.specs.Prelude.{ℕ, ℤ, List}
use Rattle.crn_vec.specs.Network.{Net, IsNetwork}
use Rattle.crn_vec.specs.Vectors.{Mat, AreOfLength}
use Rattle.crn_vec.specs.Deficiency.{IsLabelled}
use Rattle.crn_vec.specs.NetSystems.{species_system, reaction_system, class_system, confluence_system}
use Rattle.crn_vec.specs.NetSignals.{IsShapeOf}
use Rattle.crn_vec.specs.Signals.{Shape, shelf_matrix}

-- each row of the matrix has an entry for each column
abbrev pub HasFullRows : Mat → Type 0
HasFullRows a = AreOfLength a.cols a.rows

-- the rows of each system of a network are full: of the species, the reactions, the linkage
-- classes, the confluence space, and the signals
pub record AllHaveFullRows (net : Net) : Type 0 where
  pub species : HasFullRows (species_system net)
  pub reactions : HasFullRows (reaction_system net)
  pub class : (labels : List ℕ) (k : ℕ) → HasFullRows (class_system net labels k)
  pub confluence : (labels : List ℕ) (count : ℕ) → IsLabelled net labels
      → HasFullRows (confluence_system net labels count)
  pub signals : (g : List ℤ) (s : Shape) → IsShapeOf net g s → HasFullRows (shelf_matrix s)

-- the rows of each system of a network are full
abbrev pub NetworksHaveFullRows : Type 0
NetworksHaveFullRows = (net : Net) → IsNetwork net → AllHaveFullRows net
