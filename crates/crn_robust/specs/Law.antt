-- Laws on robustness: one case holds of a network and decides the hypotheses, and the deficiency says
-- whether the confluence space is a line.
-- Source: this project's own.
use Rattle.std.specs.Prelude.{◌≡◌, ◌≤◌, ◌↔◌, ◌-◌, ℕ}
use Rattle.crn_vec.specs.Network.{Net, IsNetwork}
use Rattle.crn_vec.specs.Deficiency.{IsDeficiency}
use Rattle.crn_vec.specs.Confluence.{HasConfluenceLine}
use Rattle.crn_robust.specs.declared.robust.Robust.{Robust}
use Rattle.crn_robust.specs.declared.robust.Robust.TheVariants.{Yes, Number, None, Rests}
use Rattle.crn_robust.specs.Robust.{IsRobust, IsCase, SaysLine}

-- at most one case holds of a network
abbrev pub CasesAreOne : Type 0
CasesAreOne = (net : Net) (a b : Robust) → IsCase net a → IsCase net b → a ≡ b

-- the hypotheses hold for no species and complexes
abbrev pub IsNowhereRobust : Net → Type 0
IsNowhereRobust net = (s c d : ℕ) → IsRobust net s c d → ⊥

-- what an answer says of the hypotheses: for which species and complexes they hold, or that they
-- hold for none, or nothing
abbrev pub IsTrueOf : Net → Robust → Type 0
IsTrueOf net (Yes species first second) = (1 ≤ species) × (1 ≤ first) × (1 ≤ second)
    × IsRobust net (species - 1) (first - 1) (second - 1)
IsTrueOf net (Number d) = IsNowhereRobust net
IsTrueOf net None = IsNowhereRobust net
IsTrueOf net Rests = Unit {0}

-- the case that holds of a network decides the hypotheses
abbrev pub CasesDecideRobustness : Type 0
CasesDecideRobustness = (net : Net) (robust : Robust) → IsCase net robust → IsTrueOf net robust

-- a number that is 1 if and only if the deficiency is 1 says whether the confluence space is a line
abbrev pub LinesAreTrue : Type 0
LinesAreTrue = (net : Net) (b d : ℕ) → IsNetwork net → IsDeficiency net d → SaysLine net b
    → (b ≡ 1) ↔ HasConfluenceLine net
