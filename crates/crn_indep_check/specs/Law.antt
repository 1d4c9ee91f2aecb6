-- A decomposition that is shown to be the finest is the finest.
-- Source: this project's own.
use Rattle.std.specs.Prelude.{ℕ, List}
use Rattle.crn_vec.specs.Network.{Net, IsNetwork}
use Rattle.crn_vec.specs.Linkage.{IsLabelCount}
use Rattle.crn_cert.specs.declared.answer.RankProof.{RankProof}
use Rattle.crn_indep_check.specs.Finest.{IsFinestDecomposition}
use Rattle.crn_indep_check.specs.declared.parts.Parts.{Parts}
use Rattle.crn_indep_check.specs.Parts.{IsFormedParts, AreValidParts, AreTrueParts}
use Rattle.crn_indep_check.specs.Shown.{IsShownForm, IsShown, part_ranks}

-- If all tests of a formed proof hold, its labels are those of the finest decomposition, and the members of the base with
-- each label count the rank of its part.
abbrev pub ShownDecompositionsAreFinest : Type 0
ShownDecompositionsAreFinest = (net : Net) (rank : ℕ) (proof : RankProof) (labels up depth : List ℕ)
    (count : ℕ) → IsNetwork net → IsShownForm net rank proof labels up depth
    → IsShown net proof labels up depth → IsLabelCount labels count
    → IsFinestDecomposition net labels (part_ranks proof labels count)

-- A formed and valid answer is true.
abbrev pub ValidAnswersAreTrue : Type 0
ValidAnswersAreTrue = (net : Net) (answer : Parts) → IsNetwork net → IsFormedParts net answer
    → AreValidParts net answer → AreTrueParts net answer
