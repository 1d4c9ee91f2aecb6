-- Regular networks, the confluence space, and confluence vectors.
-- Source: after Feinberg (1988, 1995), the Deficiency One Algorithm; the definitions in this form
-- are this project's own.
-- Shapes: `g` has an entry for each complex; species and complexes count from 0.
use Rattle.std.specs.Prelude.{◌≡◌, ◌≢◌, ◌<◌, ℕ, ℤ, pos, neg_ℤ, ◌*ℤ◌, ◌≤ℤ◌, ◌⊎◌, ◌↔◌, List, length}
use Rattle.crn_vec.specs.Network.{Net, IsNetwork}
use Rattle.crn_vec.specs.Linkage.{SameClass}
use Rattle.crn_vec.specs.Vectors.{entry, scale}
use Rattle.crn_vec.specs.Rank.{combination_at, IsZero}
use Rattle.crn_vec.specs.Elementary.{IsPrimitive, AreProportional}
use Rattle.crn_vec.specs.Strong.{SameStrong, IsTerminal, IsWeaklyReversible}
use Rattle.crn_vec.specs.CutPairs.{IsCutPair, IsTerminalPair}
use Rattle.crn_vec.specs.Sums.{SumsTo}
use Rattle.crn_vec.specs.Deficiency.{IsPositivelyDependent, HasOneTerminalEach, IsComplex}

-- each linkage class has one terminal strong class, the network is positively dependent, and linked
-- complexes of a terminal class are cut pairs
pub record IsRegular (net : Net) : Type 0 where
  pub terminal : HasOneTerminalEach net
  pub dependent : IsPositivelyDependent net
  pub cut_pairs : (y z : ℕ) → IsTerminalPair net.reactions y z → IsCutPair net.reactions y z

-- the combination of the complexes with the entries of g is zero, and g sums to zero over each
-- linkage class
pub record InConfluenceSpace (net : Net) (g : List ℤ) : Type 0 where
  pub long : length g ≡ length net.complexes
  pub balance : (s : ℕ) → combination_at g net.complexes s ≡ pos 0
  pub classes : (y : ℕ) → IsComplex net y → SumsTo g (SameClass net.reactions y) (pos 0)

-- some entry is not zero
abbrev pub IsNonzero : List ℤ → Type 0
IsNonzero g = (k : ℕ) × (entry g k ≢ pos 0)

-- the confluence space has a nonzero vector, and every two of its vectors are proportional
pub record HasConfluenceLine (net : Net) : Type 0 where
  pub some : (g : List ℤ) × InConfluenceSpace net g × IsNonzero g
  pub one : (g h : List ℤ) → InConfluenceSpace net g → InConfluenceSpace net h → AreProportional g h

-- the sum of g over the terminal strong class of y is at least zero
abbrev pub GathersAt : Net → List ℤ → ℕ → Type 0
GathersAt net g y = (x : ℤ) × SumsTo g (SameStrong net.reactions y) x × (pos 0 ≤ℤ x)

-- a nonzero vector of the confluence space whose sum over each terminal strong class is at least
-- zero
pub record IsConfluenceVector (net : Net) (g : List ℤ) : Type 0 where
  pub space : InConfluenceSpace net g
  pub some : IsNonzero g
  pub gathers : (y : ℕ) → IsComplex net y → IsTerminal net.reactions y → GathersAt net g y

-- the first entry that is not zero is positive
abbrev pub LeadsPositive : List ℤ → Type 0
LeadsPositive g = (k : ℕ) × (pos 1 ≤ℤ entry g k) × ((j : ℕ) → j < k → entry g j ≡ pos 0)

-- a primitive confluence vector; if the network is weakly reversible, its first nonzero entry is
-- positive
pub record IsNormalVector (net : Net) (g : List ℤ) : Type 0 where
  pub confluence : IsConfluenceVector net g
  pub primitive : IsPrimitive g
  pub leads : IsWeaklyReversible net.reactions → LeadsPositive g

-- the confluence space holds only zero
abbrev pub HasNoConfluence : Net → Type 0
HasNoConfluence net = (g : List ℤ) → InConfluenceSpace net g → IsZero g

-- positive multiples of one another
pub record ArePositiveMultiples (g h : List ℤ) : Type 0 where
  pub a : ℤ
  pub b : ℤ
  pub a_positive : pos 1 ≤ℤ a
  pub b_positive : pos 1 ≤ℤ b
  pub is : (k : ℕ) → a *ℤ entry g k ≡ b *ℤ entry h k

-- the negative of a list
abbrev pub negative : List ℤ → List ℤ
negative g = scale (neg_ℤ (pos 1)) g

-- there is a confluence vector, every two are multiples of each other, and the negative of one is
-- one if and only if the network is weakly reversible
pub record AreConfluencesOne (net : Net) : Type 0 where
  pub some : (g : List ℤ) × IsConfluenceVector net g
  pub one : (g h : List ℤ) → IsConfluenceVector net g → IsConfluenceVector net h
      → ArePositiveMultiples g h
      ⊎ (ArePositiveMultiples g (negative h) × IsWeaklyReversible net.reactions)
  pub negative_too : (g : List ℤ) → IsConfluenceVector net g
      → IsConfluenceVector net (negative g) ↔ IsWeaklyReversible net.reactions

-- a regular network whose confluence space is a line has one confluence vector up to multiples
abbrev pub ConfluenceVectorsAreOne : Type 0
ConfluenceVectorsAreOne = (net : Net) → IsNetwork net → IsRegular net → HasConfluenceLine net
    → AreConfluencesOne net
