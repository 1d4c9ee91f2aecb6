-- What each verdict says of a network: the truth of a verdict, question by question.
-- Source: Feinberg (2019), Feinberg (1988, 1995) for confluence vectors and signals, Shinar and
-- Feinberg (2012) for concordance, by the definitions of crn_vec. The variants are this project's
-- own.
-- Shapes: labels, classes, reactions and complexes of verdicts count from 1. In the definitions of
-- crn_vec complexes and reactions count from 0.
use Rattle.std.specs.Prelude.{◌≡◌, ◌≢◌, ◌≤◌, ◌<◌, ◌-◌, ◌↔◌, IsTrue, ℕ, suc, ℤ, pos, negsuc, ◌≤ℤ◌, ◌⊎◌, List, [], ◌∷◌, length, map, slice_index_or}
use Rattle.std.specs.List.{AllByRecursion}
use Rattle.crn_vec.specs.Lists.{IsIn}
use Rattle.crn_vec.specs.Network.{Net}
use Rattle.crn_vec.specs.Linkage.{IsLabelCount}
use Rattle.crn_vec.specs.Vectors.{dot}
use Rattle.crn_vec.specs.Rank.{combination_at, IsIndependent, DependsOn, IsChoice, IsRank, chosen}
use Rattle.crn_vec.specs.Elementary.{AreProportional}
use Rattle.crn_vec.specs.Walks.{IsAlong, IsNumberOf}
use Rattle.crn_vec.specs.Strong.{SameStrong, IsTerminal, AreRightStrongLabels, AreExits, IsReaction, ReactsTo, IsReversible, StaysStrong, IsWeaklyReversible}
use Rattle.crn_vec.specs.CutPairs.{IsFreeStep, IsTerminalPair, IsCutPair}
use Rattle.crn_vec.specs.Deficiency.{vectors, IsPositiveDependence, IsPositivelyDependent, IsConservationLaw, IsConservative, IsComplex, IsLabelled, IsDeficiency, AreDeficiencies, HasOneTerminalEach, IsFirstSplitClass, IsDeficiencyZero, IsDeficiencyOne, IsFirstLargeClass, HasOtherSum}
use Rattle.crn_vec.specs.Confluence.{IsRegular, InConfluenceSpace, HasConfluenceLine, IsConfluenceVector, IsNormalVector, HasNoConfluence, negative}
use Rattle.crn_vec.specs.NetSystems.{reaction_system}
use Rattle.crn_vec.specs.Concordance.{sign, IsDiscordant}
use Rattle.crn_vec.specs.Influence.{plain_table, strong_table, IsConcordantNet, IsStronglyConcordantNet}
use Rattle.crn_vec.specs.NetSignals.{IsSignalOf, HasNoSignal}
use Rattle.crn_cert.specs.declared.answer.Verdict.{Verdict}
use Rattle.crn_cert.specs.declared.answer.Verdict.TheVariants.{Classes, Strong, Rank, Deficiency, Yes, YesWeak, YesVec, NoReaction, NoVec, NoNumber, NoTerminal, NoClass, NoSum, NoDependence, NoCycle, NotRegular, OnlyZero, Plane, YesSignal, No, NoPair, NotApplicable}
use Rattle.crn_cert.specs.Questions.{Question, Q1, Q2, Q3, Q4, Q5, Q6, Q7, Q8, Q9, Q10, Q11, Q12, Q13, Q14, Q15}

-- ---- linkage classes

-- right labels of the linkage classes, and their number
pub record AreLinkageClasses (net : Net) (count : ℕ) (labels : List ℕ) : Type 0 where
  pub labelled : IsLabelled net labels
  pub count_is : IsLabelCount labels count

-- the labels are right for the linkage classes, and the count is their number
abbrev pub SaysLinkageClasses : Net → Verdict → Type 0
SaysLinkageClasses net (Classes count label) = AreLinkageClasses net count label.list
SaysLinkageClasses net other = ⊥

-- ---- strong classes

-- right labels of the strong classes, their number, that of the terminal ones, and the exits
pub record AreStrongClasses (net : Net) (count terminal : ℕ) (labels exits : List ℕ) : Type 0 where
  pub places : length labels ≡ length net.complexes
  pub right : AreRightStrongLabels net.reactions labels
  pub count_is : IsLabelCount labels count
  -- the number of terminal classes
  pub terminal_is : IsNumberOf (λ y. IsComplex net y
      × IsTerminal net.reactions y) (SameStrong net.reactions) terminal
  pub classes : length exits ≡ count
  pub exits_are : AreExits net.reactions labels exits

-- the labels are right for the strong classes, both counts are right, and the exits are
abbrev pub SaysStrongClasses : Net → Verdict → Type 0
SaysStrongClasses net (Strong count terminal label exit) =
    AreStrongClasses net count terminal label.list exit.list
SaysStrongClasses net other = ⊥

-- ---- reversibility

-- reaction r, counted from 1, goes from y to z
abbrev pub IsReactionNumber : Net → ℕ → ℕ → ℕ → Type 0
IsReactionNumber net r y z = (1 ≤ r) × IsReaction net.reactions (r - 1) y z

-- the reverse of reaction r is not a reaction
abbrev pub HasNoReverse : Net → ℕ → Type 0
HasNoReverse net r = (y : ℕ) × (z : ℕ) × IsReactionNumber net r y z
    × (ReactsTo net.reactions z y → ⊥)

-- the network is reversible, or the reaction has no reverse
abbrev pub SaysReversible : Net → Verdict → Type 0
SaysReversible net Yes = IsReversible net.reactions
SaysReversible net (NoReaction r) = HasNoReverse net r
SaysReversible net other = ⊥

-- reaction r leaves its strong class
abbrev pub LeavesStrongClass : Net → ℕ → Type 0
LeavesStrongClass net r = (y : ℕ) × (z : ℕ) × IsReactionNumber net r y z
    × (SameStrong net.reactions y z → ⊥)

-- every reaction stays within its strong class, or this one leaves it
abbrev pub SaysWeaklyReversible : Net → Verdict → Type 0
SaysWeaklyReversible net Yes = StaysStrong net.reactions
SaysWeaklyReversible net (NoReaction r) = LeavesStrongClass net r
SaysWeaklyReversible net other = ⊥

-- ---- rank

-- numbers from 1 as numbers from 0
abbrev pub from_zero : List ℕ → List ℕ
from_zero rs = map (λ r. r - 1) rs

-- independent members of a list of vectors on which all its vectors depend
pub record IsBaseOf (vs : List (List ℤ)) (base : List ℕ) : Type 0 where
  pub positive : AllByRecursion (λ r. 1 ≤ r) base
  pub choice : IsChoice (length vs) (from_zero base)
  pub independent : IsIndependent (chosen (from_zero base) vs)
  pub spans : (k : ℕ) → k < length vs
      → DependsOn (slice_index_or vs k []) (chosen (from_zero base) vs)

-- the rank of the reaction vectors, and a base of them with as many members
pub record IsRankOf (net : Net) (rank : ℕ) (base : List ℕ) : Type 0 where
  pub rank_is : IsRank (vectors net) rank
  pub count : length base ≡ rank
  pub base_is : IsBaseOf (vectors net) base

-- the rank and the base are right
abbrev pub SaysRank : Net → Verdict → Type 0
SaysRank net (Rank rank base) = IsRankOf net rank base.list
SaysRank net other = ⊥

-- ---- deficiencies

-- the deficiencies of the network and of its linkage classes are right
abbrev pub SaysDeficiency : Net → Verdict → Type 0
SaysDeficiency net (Deficiency total classes) = AreDeficiencies net total classes.list
SaysDeficiency net other = ⊥

-- ---- positive vectors

-- multipliers whose products with the reaction vectors are at most 0, and below 0 for one
pub record RuleOutDependence (net : Net) (u : List ℤ) : Type 0 where
  pub long : length u ≡ length net.names
  pub falls : AllByRecursion (λ v. dot u v ≤ℤ pos 0) (vectors net)
  pub some : (v : List ℤ) × IsIn v (vectors net) × (dot u v ≤ℤ negsuc 0)

-- a positive dependence, or multipliers that rule each one out
abbrev pub SaysPositivelyDependent : Net → Verdict → Type 0
SaysPositivelyDependent net (YesVec vector) = IsPositiveDependence net vector.list
SaysPositivelyDependent net (NoVec multipliers) = RuleOutDependence net multipliers.list
    × (IsPositivelyDependent net → ⊥)
SaysPositivelyDependent net other = ⊥

-- a combination of the reactions that increases no species and decreases some
pub record RuleOutConservation (net : Net) (u : List ℤ) : Type 0 where
  pub long : length u ≡ length net.reactions
  pub falls : (s : ℕ) → combination_at u (vectors net) s ≤ℤ pos 0
  pub some : (s : ℕ) × (combination_at u (vectors net) s ≢ pos 0)

-- a conservation law with positive weights, or multipliers that rule each one out
abbrev pub SaysConservative : Net → Verdict → Type 0
SaysConservative net (YesVec vector) = IsConservationLaw net vector.list
SaysConservative net (NoVec multipliers) = RuleOutConservation net multipliers.list
    × (IsConservative net → ⊥)
SaysConservative net other = ⊥

-- ---- the two deficiency theorems

-- the hypotheses of the Deficiency Zero Theorem hold, with their case, or the deficiency is this
-- one and not 0
abbrev pub SaysDeficiencyZero : Net → Verdict → Type 0
SaysDeficiencyZero net (YesWeak weak) = IsDeficiencyZero net
    × (IsTrue weak ↔ IsWeaklyReversible net.reactions)
SaysDeficiencyZero net (NoNumber d) = IsDeficiency net d × (d ≢ 0)
SaysDeficiencyZero net other = ⊥

-- the hypotheses of the Deficiency One Theorem hold, or this one fails first
abbrev pub SaysDeficiencyOne : Net → Verdict → Type 0
SaysDeficiencyOne net Yes = IsDeficiencyOne net
SaysDeficiencyOne net (NoTerminal k count) = IsFirstSplitClass net k count
SaysDeficiencyOne net (NoClass k d) = IsFirstLargeClass net k d
SaysDeficiencyOne net (NoSum x) = HasOtherSum net x
SaysDeficiencyOne net other = ⊥

-- ---- regularity

-- the walk, whose complexes count from 1, leads from y to z by steps of this kind between complexes
-- that count from 0
abbrev pub WalkLeads : (ℕ → ℕ → Type 0) → ℕ → List ℕ → ℕ → Type 0
WalkLeads Step y [] z = ⊥
WalkLeads Step y (x ∷ xs) z = (x ≡ suc y) × AllByRecursion (λ k. 1 ≤ k) xs
    × IsAlong Step y (from_zero xs) z

-- reaction r joins a pair of a terminal class that is not a cut pair, as the walk shows
pub record IsCycle (net : Net) (r : ℕ) (walk : List ℕ) : Type 0 where
  pub y : ℕ
  pub z : ℕ
  pub goes : IsReactionNumber net r y z
  pub pair : IsTerminalPair net.reactions y z
  pub no_cut_pair : IsCutPair net.reactions y z → ⊥
  pub shown : WalkLeads (IsFreeStep net.reactions y z) y walk z

-- the network is regular, or fails to be so by the first condition that fails, or by a cycle, beside
-- which positive dependence may be open
abbrev pub SaysRegular : Net → Verdict → Type 0
SaysRegular net Yes = IsRegular net
SaysRegular net (NoTerminal k count) = IsFirstSplitClass net k count
SaysRegular net NoDependence = HasOneTerminalEach net × (IsPositivelyDependent net → ⊥)
SaysRegular net (NoCycle r walk) = HasOneTerminalEach net × IsCycle net r walk.list
SaysRegular net other = ⊥

-- ---- confluence

-- two vectors of the confluence space that are not proportional
pub record IsPlane (net : Net) (g h : List ℤ) : Type 0 where
  pub one : InConfluenceSpace net g
  pub two : InConfluenceSpace net h
  pub apart : AreProportional g h → ⊥

-- the normal confluence vector, or why there is none
abbrev pub SaysConfluence : Net → Verdict → Type 0
SaysConfluence net (YesVec vector) = IsRegular net × HasConfluenceLine net
    × IsNormalVector net vector.list
SaysConfluence net NotRegular = IsRegular net → ⊥
SaysConfluence net OnlyZero = IsRegular net × HasNoConfluence net
SaysConfluence net (Plane first second one two) = IsRegular net × IsPlane net one.list two.list
SaysConfluence net other = ⊥

-- ---- signals

-- g, or its negative if the turn is -1
abbrev pub by_turn : ℤ → List ℤ → List ℤ
by_turn (pos n) g = g
by_turn (negsuc n) g = negative g

-- the sign of a confluence vector: 1 or -1
abbrev pub IsTurn : ℤ → Type 0
IsTurn x = (x ≡ pos 1) ⊎ (x ≡ negsuc 0)

-- a shelf as a number: 1 is upper, 0 middle, -1 lower
abbrev pub IsShelf : ℤ → Type 0
IsShelf x = (x ≡ pos 1) ⊎ ((x ≡ pos 0) ⊎ (x ≡ negsuc 0))

-- the lists are a signal for a normal vector or, if the turn is -1, its negative, which is a
-- confluence vector too
pub record IsSignalShown (net : Net) (turn : ℤ) (shelves mu : List ℤ) (level : ℤ)
    (weights : List ℤ) : Type 0 where
  pub turn_is : IsTurn turn
  pub shelves_are : AllByRecursion IsShelf shelves
  pub g : List ℤ
  pub normal : IsNormalVector net g
  pub confluence : IsConfluenceVector net (by_turn turn g)
  pub signal : IsSignalOf net (by_turn turn g) (map sign shelves) mu level weights

-- no confluence vector has a signal
abbrev pub HasNoSignals : Net → Type 0
HasNoSignals net = (g : List ℤ) → IsConfluenceVector net g → HasNoSignal net g

-- a signal; or no confluence vector has a signal; or there is no confluence vector up to multiples
abbrev pub SaysSignal : Net → Verdict → Type 0
SaysSignal net (YesSignal turn shelves mu level weights) = IsRegular net × HasConfluenceLine net
    × IsSignalShown net turn shelves.list mu.list level weights.list
SaysSignal net No = IsRegular net × HasConfluenceLine net × HasNoSignals net
SaysSignal net NotApplicable = IsRegular net × HasConfluenceLine net → ⊥
SaysSignal net other = ⊥

-- ---- concordance

-- the network is concordant, or the two lists show that it is not
abbrev pub SaysConcordant : Net → Verdict → Type 0
SaysConcordant net Yes = IsConcordantNet net
SaysConcordant net (NoPair alpha weights) =
    IsDiscordant (reaction_system net) (plain_table net) alpha.list weights.list
SaysConcordant net other = ⊥

-- the network is strongly concordant, or the two lists show that it is not
abbrev pub SaysStronglyConcordant : Net → Verdict → Type 0
SaysStronglyConcordant net Yes = IsStronglyConcordantNet net
SaysStronglyConcordant net (NoPair alpha weights) =
    IsDiscordant (reaction_system net) (strong_table net) alpha.list weights.list
SaysStronglyConcordant net other = ⊥

-- ---- all questions

-- a decided verdict is true of the network
abbrev pub IsTrueOf : Net → Question → Verdict → Type 0
IsTrueOf net Q1 verdict = SaysLinkageClasses net verdict
IsTrueOf net Q2 verdict = SaysStrongClasses net verdict
IsTrueOf net Q3 verdict = SaysReversible net verdict
IsTrueOf net Q4 verdict = SaysWeaklyReversible net verdict
IsTrueOf net Q5 verdict = SaysRank net verdict
IsTrueOf net Q6 verdict = SaysDeficiency net verdict
IsTrueOf net Q7 verdict = SaysPositivelyDependent net verdict
IsTrueOf net Q8 verdict = SaysConservative net verdict
IsTrueOf net Q9 verdict = SaysDeficiencyZero net verdict
IsTrueOf net Q10 verdict = SaysDeficiencyOne net verdict
IsTrueOf net Q11 verdict = SaysRegular net verdict
IsTrueOf net Q12 verdict = SaysConfluence net verdict
IsTrueOf net Q13 verdict = SaysSignal net verdict
IsTrueOf net Q14 verdict = SaysConcordant net verdict
IsTrueOf net Q15 verdict = SaysStronglyConcordant net verdict
