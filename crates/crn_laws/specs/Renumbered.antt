-- The same network in another order: its species, complexes and reactions are numbered anew, as
-- they are if the lines of its text are put in another order.
-- Source: this project's own.
-- Shapes: species, complexes and reactions count from 0.
use Rattle.std.specs.Prelude.{◌≡◌, ◌<◌, ◌⊎◌, ◌↔◌, ℕ, ℤ, List, length, slice_index}
use Rattle.crn_vec.specs.Lists.{IsIn}
use Rattle.crn_vec.specs.Network.{Net, IsNetwork, Statement, amount_at, amount_in}
use Rattle.crn_vec.specs.Vectors.{entry}
use Rattle.crn_vec.specs.Rank.{IsRank}
use Rattle.crn_vec.specs.Strong.{IsReaction, IsReversible, IsWeaklyReversible}
use Rattle.crn_vec.specs.Deficiency.{vectors, IsDeficiency, AreDeficiencies, IsDeficiencyZero, IsDeficiencyOne, IsPositivelyDependent, IsConservative, HasOneTerminalEach}
use Rattle.crn_vec.specs.Confluence.{HasConfluenceLine, IsNormalVector, IsRegular, negative}
use Rattle.crn_vec.specs.NetSignals.{IsSignalOf}
use Rattle.crn_vec.specs.declared.signs.Sign.{Sign}
use Rattle.crn_vec.specs.Influence.{IsConcordantNet, IsStronglyConcordantNet}
use Rattle.crn_text.specs.Tokens.{lines}
use Rattle.crn_text.specs.Sides.{all_statements}
use Rattle.crn_text.specs.Spells.{Spells}

-- a one-to-one map of the numbers below n onto those below m, and the map back
pub record Renumbering (n m : ℕ) : Type 0 where
  pub to : ℕ → ℕ
  pub back : ℕ → ℕ
  pub to_below : (k : ℕ) → k < n → to k < m
  pub back_below : (k : ℕ) → k < m → back k < n
  pub back_to : (k : ℕ) → k < n → back (to k) ≡ k
  pub to_back : (k : ℕ) → k < m → to (back k) ≡ k

-- the second list is the first with its places numbered anew
pub record IsMoved (n m : ℕ) (p : Renumbering n m) (xs ys : List ℤ) : Type 0 where
  pub long : length xs ≡ n
  pub long_too : length ys ≡ m
  pub same : (k : ℕ) → k < n → entry ys (p.to k) ≡ entry xs k

-- the other network is this one with its species, complexes and reactions numbered anew: each
-- complex has the same amounts, and each reaction the same two complexes
pub record IsRenumbered (net other : Net) : Type 0 where
  pub species : Renumbering (length net.names) (length other.names)
  pub complexes : Renumbering (length net.complexes) (length other.complexes)
  pub reactions : Renumbering (length net.reactions) (length other.reactions)
  pub amounts : (c s : ℕ) → c < length net.complexes → s < length net.names
      → amount_at other (complexes.to c) (species.to s) ≡ amount_at net c s
  pub ends : (r y z : ℕ) → IsReaction net.reactions r y z
      → IsReaction other.reactions (reactions.to r) (complexes.to y) (complexes.to z)

-- the two statements say the same amount of each name on either side
abbrev pub AreAlike : Statement → Statement → Type 0
AreAlike s t = (name : List ℕ) → (amount_in s.0 name ≡ amount_in t.0 name)
    × (amount_in s.1 name ≡ amount_in t.1 name)

-- each statement of the text is like one of the other
abbrev pub IsSaidIn : List ℕ → List ℕ → Type 0
IsSaidIn text another = (s : Statement) → IsIn s (all_statements (lines text))
    → (t : Statement) × IsIn t (all_statements (lines another)) × AreAlike s t

-- each of two texts says all that the other does, in any order of lines and of terms
abbrev pub SayTheSame : List ℕ → List ℕ → Type 0
SayTheSame text another = IsSaidIn text another × IsSaidIn another text

-- texts that say the same spell the same network in another order
abbrev pub StatementsInAnyOrder : Type 0
StatementsInAnyOrder = (text another : List ℕ) (net other : Net) → Spells text net
    → Spells another other → SayTheSame text another → IsRenumbered net other

-- a property of a network and of each that is the same in another order, or of none of them
abbrev pub IsShared : (Net → Type 0) → Type 0
IsShared Has = (net other : Net) → IsNetwork net → IsNetwork other → IsRenumbered net other
    → Has net ↔ Has other

-- the second list is the first in another order
pub record IsInOrder (xs ys : List ℕ) : Type 0 where
  pub places : Renumbering (length xs) (length ys)
  pub same : (k : ℕ) → k < length xs → slice_index ys (places.to k) ≡ slice_index xs k

-- renumbered networks have the same rank of their reaction vectors, the same deficiency, and the
-- same deficiencies of their linkage classes in another order
pub record RenumberedShareNumbers : Type 0 where
  pub rank : (s : ℕ) → IsShared (λ net. IsRank (vectors net) s)
  pub deficiency : (d : ℕ) → IsShared (λ net. IsDeficiency net d)
  pub classes : (net other : Net) (d e : ℕ) (ds es : List ℕ) → IsNetwork net → IsNetwork other
      → IsRenumbered net other → AreDeficiencies net d ds → AreDeficiencies other e es
      → IsInOrder ds es

-- all or none meet the hypotheses of the Deficiency Zero Theorem, or of the Deficiency One Theorem
pub record RenumberedShareHypotheses : Type 0 where
  pub zero : IsShared IsDeficiencyZero
  pub one : IsShared IsDeficiencyOne

-- all or none are reversible, weakly reversible, with one terminal class each, or regular
pub record RenumberedShareClasses : Type 0 where
  pub reversible : IsShared (λ net. IsReversible net.reactions)
  pub weakly_reversible : IsShared (λ net. IsWeaklyReversible net.reactions)
  pub terminal : IsShared HasOneTerminalEach
  pub regular : IsShared IsRegular

-- all or none are positively dependent, or conservative
pub record RenumberedShareDependence : Type 0 where
  pub dependent : IsShared IsPositivelyDependent
  pub conservative : IsShared IsConservative

-- all or none are concordant, or strongly concordant
pub record RenumberedShareConcordance : Type 0 where
  pub concordant : IsShared IsConcordantNet
  pub strongly_concordant : IsShared IsStronglyConcordantNet

-- the second vector over the complexes is the first, numbered anew
abbrev pub IsVectorAnew : (net other : Net) → IsRenumbered net other → List ℤ → List ℤ → Type 0
IsVectorAnew net other h g k =
    IsMoved (length net.complexes) (length other.complexes) h.complexes g k

-- the normal confluence vector of a regular network is that of each renumbered one, numbered anew,
-- or the negative of that, and then the network is weakly reversible
pub record RenumberedShareConfluence : Type 0 where
  pub line : IsShared HasConfluenceLine
  pub vector : (net other : Net) (h : IsRenumbered net other) (g k : List ℤ) → IsNetwork net
      → IsNetwork other → IsRegular net → HasConfluenceLine net
      → IsNormalVector net g → IsNormalVector other k → IsVectorAnew net other h g k
      ⊎ (IsVectorAnew net other h (negative g) k × IsWeaklyReversible net.reactions)

-- there is a signal for g
abbrev pub HasSignal : Net → List ℤ → Type 0
HasSignal net g = (shelves : List Sign) × (mu : List ℤ) × (level : ℤ) × (weights : List ℤ)
    × IsSignalOf net g shelves mu level weights

-- there is a signal for a vector if and only if there is one, in a renumbered network, for the
-- vector numbered anew
abbrev pub RenumberedShareSignals : Type 0
RenumberedShareSignals = (net other : Net) (h : IsRenumbered net other) (g k : List ℤ)
    → IsNetwork net → IsNetwork other → IsVectorAnew net other h g k
    → HasSignal net g ↔ HasSignal other k
