-- Positive dependence, conservation, deficiencies, and the hypotheses of the two deficiency
-- theorems.
-- Source: Feinberg, Foundations of Chemical Reaction Network Theory (2019).
-- Shapes: species, complexes and reactions count from 0, linkage classes from 1 by first
-- appearance.
use Rattle.std.specs.Prelude.{◌≡◌, ◌≢◌, ◌≤◌, ◌<◌, ◌+◌, ◌-◌, ◌==◌, ℕ, ℤ, pos, ◌≤ℤ◌, List, length, map, filter, sum, slice_index}
use Rattle.std.specs.List.{AllByRecursion}
use Rattle.crn_vec.specs.Network.{Net, reaction_vector}
use Rattle.crn_vec.specs.Linkage.{SameClass, AreRightLabels, IsLabelCount}
use Rattle.crn_vec.specs.Vectors.{dot}
use Rattle.crn_vec.specs.Rank.{combination_at, IsRank}
use Rattle.crn_vec.specs.Walks.{IsNumberOf}
use Rattle.crn_vec.specs.Strong.{SameStrong, IsTerminal}

-- the vectors of the reactions in order
abbrev pub vectors : Net → List (List ℤ)
vectors net = map (reaction_vector net) net.reactions

-- ---- positive vectors

-- each entry is at least 1
abbrev pub IsPositive : List ℤ → Type 0
IsPositive v = AllByRecursion (λ x. pos 1 ≤ℤ x) v

-- these positive multiples of the reaction vectors add up to zero
pub record IsPositiveDependence (net : Net) (a : List ℤ) : Type 0 where
  pub long : length a ≡ length net.reactions
  pub positive : IsPositive a
  pub zero_sum : (s : ℕ) → combination_at a (vectors net) s ≡ pos 0

-- positive multiples of the reaction vectors add up to zero
abbrev pub IsPositivelyDependent : Net → Type 0
IsPositivelyDependent net = (a : List ℤ) × IsPositiveDependence net a

-- a positive weight for each species, such that every reaction conserves the total weight
pub record IsConservationLaw (net : Net) (x : List ℤ) : Type 0 where
  pub long : length x ≡ length net.names
  pub positive : IsPositive x
  pub conserved : AllByRecursion (λ v. dot x v ≡ pos 0) (vectors net)

-- every reaction conserves some total of positive weights
abbrev pub IsConservative : Net → Type 0
IsConservative net = (x : List ℤ) × IsConservationLaw net x

-- ---- deficiencies

-- y is the number of a complex
abbrev pub IsComplex : Net → ℕ → Type 0
IsComplex net y = y < length net.complexes

-- right labels of the linkage classes, one for each complex
pub record IsLabelled (net : Net) (labels : List ℕ) : Type 0 where
  pub long : length labels ≡ length net.complexes
  pub right : AreRightLabels net.reactions labels

-- the number of complexes less that of the linkage classes less the rank
pub record IsDeficiency (net : Net) (d : ℕ) : Type 0 where
  pub classes : ℕ
  pub rank : ℕ
  pub classes_are : IsNumberOf (IsComplex net) (SameClass net.reactions) classes
  pub rank_is : IsRank (vectors net) rank
  pub is : d + classes + rank ≡ length net.complexes

-- the deficiency is one number
abbrev pub DeficiencyIsOne : Type 0
DeficiencyIsOne = (net : Net) (d e : ℕ) → IsDeficiency net d → IsDeficiency net e → d ≡ e

-- the reactions of linkage class k
abbrev pub class_reactions : Net → List ℕ → ℕ → List (ℕ × ℕ)
class_reactions net labels k = filter (λ r. slice_index labels r.0 == k) net.reactions

-- the vectors of the reactions of linkage class k
abbrev pub class_vectors : Net → List ℕ → ℕ → List (List ℤ)
class_vectors net labels k = map (reaction_vector net) (class_reactions net labels k)

-- as many members as linkage class k has complexes
abbrev pub class_members : List ℕ → ℕ → List ℕ
class_members labels k = filter (λ l. l == k) labels

-- the number of complexes of the class less 1 less the rank of its reactions
pub record IsClassDeficiency (net : Net) (labels : List ℕ) (k d : ℕ) : Type 0 where
  pub rank : ℕ
  pub rank_is : IsRank (class_vectors net labels k) rank
  pub is : d + 1 + rank ≡ length (class_members labels k)

-- the deficiency of the network, and that of each linkage class in order
pub record AreDeficiencies (net : Net) (total : ℕ) (classes : List ℕ) : Type 0 where
  pub labels : List ℕ
  pub labelled : IsLabelled net labels
  pub count : IsLabelCount labels (length classes)
  pub total_is : IsDeficiency net total
  pub each : (k : ℕ) → k < length classes
      → IsClassDeficiency net labels (k + 1) (slice_index classes k)

-- ---- hypotheses

-- the linkage class of y has n terminal strong classes
abbrev pub HasTerminalClasses : Net → ℕ → ℕ → Type 0
HasTerminalClasses net y n = IsNumberOf (λ z. IsComplex net z × SameClass net.reactions y z
    × IsTerminal net.reactions z) (SameStrong net.reactions) n

-- each linkage class has exactly one terminal strong class
abbrev pub HasOneTerminalEach : Net → Type 0
HasOneTerminalEach net = (y : ℕ) → IsComplex net y → HasTerminalClasses net y 1

-- linkage class k is the least with several terminal strong classes, and has `count` of them
pub record IsFirstSplitClass (net : Net) (k count : ℕ) : Type 0 where
  pub labels : List ℕ
  pub labelled : IsLabelled net labels
  pub y : ℕ
  pub place : y < length labels
  pub member : slice_index labels y ≡ k
  pub classes : HasTerminalClasses net y count
  pub several : 2 ≤ count
  pub before : (z : ℕ) → z < length labels → slice_index labels z < k → HasTerminalClasses net z 1

-- the hypotheses of the Deficiency Zero Theorem
abbrev pub IsDeficiencyZero : Net → Type 0
IsDeficiencyZero net = IsDeficiency net 0

-- each number of the list is at most 1
abbrev pub AreAtMostOne : List ℕ → Type 0
AreAtMostOne ds = AllByRecursion (λ d. d ≤ 1) ds

-- the hypotheses of the Deficiency One Theorem
pub record IsDeficiencyOne (net : Net) : Type 0 where
  pub terminal : HasOneTerminalEach net
  pub total : ℕ
  pub classes : List ℕ
  pub deficiencies : AreDeficiencies net total classes
  pub small : AreAtMostOne classes
  pub additive : sum classes ≡ total

-- the first hypothesis holds and the second fails: linkage class k is the least whose deficiency is
-- 2 or more, and has deficiency d
pub record IsFirstLargeClass (net : Net) (k d : ℕ) : Type 0 where
  pub terminal : HasOneTerminalEach net
  pub total : ℕ
  pub classes : List ℕ
  pub deficiencies : AreDeficiencies net total classes
  pub place : (1 ≤ k) × (k ≤ length classes)
  pub is : slice_index classes (k - 1) ≡ d
  pub large : 2 ≤ d
  pub before : (j : ℕ) → j < k - 1 → slice_index classes j ≤ 1

-- only the third hypothesis fails: the class deficiencies sum to x, which is not the deficiency
pub record HasOtherSum (net : Net) (x : ℕ) : Type 0 where
  pub terminal : HasOneTerminalEach net
  pub total : ℕ
  pub classes : List ℕ
  pub deficiencies : AreDeficiencies net total classes
  pub small : AreAtMostOne classes
  pub is : sum classes ≡ x
  pub other : x ≢ total
