-- What holds between the deficiency of a network and those of its linkage classes.
-- Source: Feinberg, Chemical Engineering Science 42 (1987); Foundations of Chemical Reaction
-- Network Theory (2019), chapter 6.
use Rattle.std.specs.Prelude.{◌≤◌, ℕ, List, sum}
use Rattle.crn_vec.specs.Network.{Net, IsNetwork}
use Rattle.crn_vec.specs.Deficiency.{AreDeficiencies}

-- the deficiencies of the linkage classes sum to at most that of the network
abbrev pub ClassDeficienciesSumToAtMost : Type 0
ClassDeficienciesSumToAtMost = (net : Net) (total : ℕ) (classes : List ℕ) → IsNetwork net
    → AreDeficiencies net total classes → sum classes ≤ total
