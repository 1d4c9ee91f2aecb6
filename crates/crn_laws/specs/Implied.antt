-- What a verdict on a network says of others.
-- Source: Feinberg, Foundations of Chemical Reaction Network Theory (2019); on confluence vectors
-- and regularity, after Feinberg (1988, 1995).
use Rattle.std.specs.Prelude.{◌≤◌, ◌<◌, ◌+◌, ◌⊎◌, ◌↔◌, ℕ, List, length, slice_index, sum}
use Rattle.crn_vec.specs.Network.{Net, IsNetwork}
use Rattle.crn_vec.specs.Linkage.{IsLinked, IsLabelCount}
use Rattle.crn_vec.specs.Strong.{IsWeaklyReversible}
use Rattle.crn_vec.specs.CutPairs.{IsCutPair}
use Rattle.crn_vec.specs.Rank.{IsRank}
use Rattle.crn_vec.specs.Deficiency.{vectors, class_vectors, IsLabelled, IsPositivelyDependent, HasOneTerminalEach, AreDeficiencies, IsDeficiencyZero, IsDeficiencyOne}
use Rattle.crn_vec.specs.Confluence.{IsRegular}

-- a weakly reversible network is positively dependent
abbrev pub WeaklyReversibleAreDependent : Type 0
WeaklyReversibleAreDependent = (net : Net) → IsNetwork net → IsWeaklyReversible net.reactions
    → IsPositivelyDependent net

-- in a weakly reversible network each linkage class has one terminal strong class
abbrev pub WeaklyReversibleHaveOneTerminalEach : Type 0
WeaklyReversibleHaveOneTerminalEach = (net : Net) → IsWeaklyReversible net.reactions
    → HasOneTerminalEach net

-- a weakly reversible network is regular if and only if all its linked pairs are cut pairs
abbrev pub WeaklyReversibleAreRegularByCutPairs : Type 0
WeaklyReversibleAreRegularByCutPairs = (net : Net) → IsNetwork net
    → IsWeaklyReversible net.reactions
    → IsRegular net ↔ ((y z : ℕ) → IsLinked net.reactions y z → IsCutPair net.reactions y z)

-- a weakly reversible network is regular, or some linked pair is no cut pair
abbrev pub WeaklyReversibleAreRegularOrFail : Type 0
WeaklyReversibleAreRegularOrFail = (net : Net) → IsNetwork net → IsWeaklyReversible net.reactions
    → IsRegular net
    ⊎ ((y : ℕ) × (z : ℕ) × IsLinked net.reactions y z × (IsCutPair net.reactions y z → ⊥))

-- each network has a deficiency, and one for each of its linkage classes
abbrev pub NetworksHaveDeficiencies : Type 0
NetworksHaveDeficiencies = (net : Net) → IsNetwork net
    → (total : ℕ) × (classes : List ℕ) × AreDeficiencies net total classes

-- the ranks of the linkage classes sum to at least that of the network
abbrev pub ClassRanksSumToAtLeast : Type 0
ClassRanksSumToAtLeast = (net : Net) (labels ranks : List ℕ) (s : ℕ) → IsNetwork net
    → IsLabelled net labels → IsLabelCount labels (length ranks) → IsRank (vectors net) s
    → ((k : ℕ) → k < length ranks → IsRank (class_vectors net labels (k + 1)) (slice_index ranks k))
    → s ≤ sum ranks

-- if the hypotheses of the Deficiency Zero Theorem hold and each linkage class has one terminal strong
-- class, those of the Deficiency One Theorem hold
abbrev pub DeficiencyZeroGivesDeficiencyOne : Type 0
DeficiencyZeroGivesDeficiencyOne = (net : Net) → IsNetwork net → IsDeficiencyZero net
    → HasOneTerminalEach net → IsDeficiencyOne net
