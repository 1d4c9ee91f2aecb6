-- Signals of a network for a vector over its complexes, and the shape of the network that their
-- sign problem uses.
-- Source: this project's own, after the Deficiency One Algorithm of Feinberg (1988, 1995).
-- Shapes: complexes, species and reactions count from 0, and so do terminal strong classes, by
-- first appearance.
use Rattle.std.specs.Prelude.{◌≡◌, ◌≢◌, ◌<◌, ℕ, ℤ, pos, neg_ℤ, ◌-ℤ◌, Option, Some, None, false, List, [], length, map, take, slice_index_or}
use Rattle.std.specs.List.{AllZip}
use Rattle.crn_vec.specs.declared.signs.Sign.{Sign}
use Rattle.crn_vec.specs.Network.{Net, IsNetwork}
use Rattle.crn_vec.specs.Vectors.{dot, entry, HasSign}
use Rattle.crn_vec.specs.Rank.{combination_at}
use Rattle.crn_vec.specs.Strong.{IsReaction, SameStrong, IsTerminal}
use Rattle.crn_vec.specs.CutPairs.{IsOnSide, IsCutPair, ArePairs}
use Rattle.crn_vec.specs.Sums.{SumsTo}
use Rattle.crn_vec.specs.Deficiency.{IsComplex, vectors}
use Rattle.crn_vec.specs.Confluence.{IsRegular, InConfluenceSpace, ArePositiveMultiples, negative}
use Rattle.crn_vec.specs.NetSystems.{reaction_system}
use Rattle.crn_vec.specs.Problems.{IsFull, IsLawful, IsFeasible, SolvesA, SolvesB}
use Rattle.crn_vec.specs.Concordance.{sign}
use Rattle.crn_vec.specs.Signals.{Pair, Shape, shelf_at, shelf_of, HasPairSign, IsSignal, IsShape, signals}

-- ---- signals

-- the terminal strong class of a complex if it is in one
abbrev pub top_at : List (Option ℕ) → ℕ → Option ℕ
top_at tops y = slice_index_or tops y None

-- for each complex the number of its terminal strong class, None if and only if it is in no
-- terminal class; and the number of terminal classes
pub record AreTops (net : Net) (tops : List (Option ℕ)) (count : ℕ) : Type 0 where
  pub long : length tops ≡ length net.complexes
  pub inside : (y k : ℕ) → top_at tops y ≡ Some k → IsTerminal net.reactions y
  pub outside : (y : ℕ) → IsComplex net y → top_at tops y ≡ None → IsTerminal net.reactions y → ⊥
  pub same : (y z k : ℕ) → top_at tops y ≡ Some k → top_at tops z ≡ Some k
      → SameStrong net.reactions y z
  pub together : (y z k l : ℕ) → top_at tops y ≡ Some k → top_at tops z ≡ Some l
      → SameStrong net.reactions y z → k ≡ l
  -- each smaller number is that of an earlier complex
  pub numbered : (y k j : ℕ) → top_at tops y ≡ Some k → j < k
      → (x : ℕ) × (x < y) × (top_at tops x ≡ Some j)
  pub below : (y k : ℕ) → top_at tops y ≡ Some k → k < count
  pub each : (k : ℕ) → k < count → (y : ℕ) × (top_at tops y ≡ Some k)

-- the amounts of complex y
abbrev pub complex_of : Net → ℕ → List ℤ
complex_of net y = slice_index_or net.complexes y []

-- a signal for g over these terminal classes: a shelving, numbers mu of the species, a level, and
-- weights of the reactions
pub record IsSignalOver (net : Net) (g : List ℤ) (tops : List (Option ℕ)) (count : ℕ)
    (shelves : List Sign) (mu : List ℤ) (level : ℤ) (weights : List ℤ) : Type 0 where
  pub long_shelves : length shelves ≡ count
  pub long_mu : length mu ≡ length net.names
  pub long_weights : length weights ≡ length net.reactions
  -- each complex is above, on or below the level by its shelf, and on it if it is in no terminal
  -- class
  pub lies : AllZip (λ top y. HasSign (shelf_of shelves top) (dot y mu -ℤ level)) tops net.complexes
  -- over each cut pair of a terminal class the difference of mu has the sign that its shelf and the
  -- sum of g over the side of the second complex require
  pub over_pairs : (y z k : ℕ) (h : ℤ) → IsCutPair net.reactions y z → top_at tops y ≡ Some k
      → top_at tops z ≡ Some k → SumsTo g (IsOnSide net.reactions y z) h
      → HasPairSign (shelf_at shelves k) h (dot (complex_of net z) mu -ℤ dot (complex_of net y) mu)
  pub some : (k : ℕ) × (entry mu k ≢ pos 0)
  -- mu has at each species the sign of the change that the weights make
  pub same : (s : ℕ) → s < length net.names
      → sign (entry mu s) ≡ sign (combination_at weights (vectors net) s)

-- a signal of the network for g
pub record IsSignalOf (net : Net) (g : List ℤ) (shelves : List Sign) (mu : List ℤ) (level : ℤ)
    (weights : List ℤ) : Type 0 where
  pub tops : List (Option ℕ)
  pub count : ℕ
  pub tops_are : AreTops net tops count
  pub is : IsSignalOver net g tops count shelves mu level weights

-- there is no signal for g
abbrev pub HasNoSignal : Net → List ℤ → Type 0
HasNoSignal net g = (shelves : List Sign) (mu : List ℤ) (level : ℤ) (weights : List ℤ)
    → IsSignalOf net g shelves mu level weights → ⊥

-- ---- the shape of a network and of g

-- the pair of reaction r: its reactant, its product, their terminal class, and the sum of g over
-- the product's side
pub record IsPairOf (net : Net) (g : List ℤ) (tops : List (Option ℕ)) (r : ℕ)
    (pair : Pair) : Type 0 where
  pub goes : IsReaction net.reactions r pair.low pair.high
  pub top : top_at tops pair.low ≡ Some pair.top
  pub sum : SumsTo g (IsOnSide net.reactions pair.low pair.high) pair.sum

-- the shape of a network and of g: the complexes, the terminal classes, and the linked pairs within
-- them, each by its least reaction
pub record IsShapeOf (net : Net) (g : List ℤ) (s : Shape) : Type 0 where
  pub shape : IsShape net s
  pub tops : AreTops net s.tops s.count
  pub places : List ℕ
  pub places_are : ArePairs net.reactions places
  pub pairs : AllZip (IsPairOf net g s.tops) places s.pairs

-- the same pair with the opposite sum
abbrev pub opposite_pair : Pair → Pair
opposite_pair pair = record {
  low = pair.low;
  high = pair.high;
  top = pair.top;
  sum = neg_ℤ pair.sum;
}

-- the same shape with the opposite sums
abbrev pub opposite_shape : Shape → Shape
opposite_shape s = record {
  species = s.species;
  complexes = s.complexes;
  tops = s.tops;
  count = s.count;
  pairs = map opposite_pair s.pairs;
}

-- ---- laws

-- a network has at most one shape for each vector
abbrev pub ShapesAreOne : Type 0
ShapesAreOne = (net : Net) (g : List ℤ) (s u : Shape) → IsShapeOf net g s → IsShapeOf net g u
    → s ≡ u

-- the shape of the negative of g has the opposite sums
abbrev pub NegativesHaveOppositeShapes : Type 0
NegativesHaveOppositeShapes = (net : Net) (g : List ℤ) (s : Shape) → IsShapeOf net g s
    → IsShapeOf net (negative g) (opposite_shape s)

-- positive multiples have the same signals
abbrev pub MultiplesShareSignals : Type 0
MultiplesShareSignals = (net : Net) (g h : List ℤ) → length g ≡ length h → ArePositiveMultiples g h
    → (shelves : List Sign) (mu : List ℤ) (level : ℤ) (weights : List ℤ)
    → IsSignalOf net g shelves mu level weights → IsSignalOf net h shelves mu level weights

-- in a regular network a signal for g gives a full feasible prefix
abbrev pub SignalsAreFeasible : Type 0
SignalsAreFeasible = (net : Net) (g : List ℤ) (s : Shape) → IsNetwork net → IsRegular net
    → IsShapeOf net g s → (shelves : List Sign) (mu : List ℤ) (level : ℤ) (weights : List ℤ)
    → IsSignalOf net g shelves mu level weights
    → (p : List Sign) × IsFull (signals s (reaction_system net)) p
    × IsFeasible (signals s (reaction_system net)) p

-- a signal of the network for g is one over its shape, which has each cut pair in one order only
pub record AreOfShape (net : Net) (g : List ℤ) (s : Shape) : Type 0 where
  pub over : (shelves : List Sign) (mu : List ℤ) (level : ℤ) (weights : List ℤ)
      → IsSignalOf net g shelves mu level weights
      → IsSignal s (reaction_system net) shelves mu level weights
  pub of : (shelves : List Sign) (mu : List ℤ) (level : ℤ) (weights : List ℤ)
      → IsSignal s (reaction_system net) shelves mu level weights
      → IsSignalOf net g shelves mu level weights
  -- the solutions of both parts of a full open prefix are the signal
  pub named : (p : List Sign) (x weights : List ℤ) → IsFull (signals s (reaction_system net)) p
      → (signals s (reaction_system net)).closed p ≡ false
      → SolvesA (signals s (reaction_system net)) p x
      → SolvesB (signals s (reaction_system net)) p weights
      → IsSignalOf net g (take s.count p) (take s.species x) (entry x s.species) weights

-- the signals of a regular network are those over its shape
abbrev pub SignalsAreOfShape : Type 0
SignalsAreOfShape = (net : Net) (g : List ℤ) (s : Shape) → IsNetwork net → IsRegular net
    → InConfluenceSpace net g → IsShapeOf net g s → AreOfShape net g s

-- a regular network has fewer pairs than complexes, so the sign problem of its signals meets the
-- laws of sign problems
abbrev pub NetworksAreLawful : Type 0
NetworksAreLawful = (net : Net) (g : List ℤ) (s : Shape) → IsNetwork net → IsRegular net
    → length g ≡ length net.complexes → IsShapeOf net g s
    → IsLawful (signals s (reaction_system net))
