-- The tests of the records on linkage classes, strong classes, reversibility and cut pairs.
-- Source: this project's own.
-- Shapes: labels, classes and the reactions that records name count from 1, complexes from 0. A
-- record names no reaction by 0.
use Rattle.std.specs.Prelude.{◌≡◌, ◌≢◌, ◌≤◌, ◌<◌, ◌-◌, ◌⊎◌, ◌==◌, ℕ, suc, ℤ, pos, List, length, slice_index, count_by}
use Rattle.crn_vec.specs.Network.{Net}
use Rattle.crn_vec.specs.Linkage.{IsLabelCount}
use Rattle.crn_vec.specs.Vectors.{entry}
use Rattle.crn_vec.specs.Strong.{IsReaction, ReactsTo}
use Rattle.crn_vec.specs.CutPairs.{IsBetween, IsFreeStep}
use Rattle.crn_cert.specs.Says.{IsReactionNumber, WalkLeads}

-- ---- labels and trees

-- the labels count from 1 by first appearance, up to the count
pub record AreNumbered (labels : List ℕ) (count : ℕ) : Type 0 where
  pub positive : (y : ℕ) → y < length labels → 1 ≤ slice_index labels y
  pub numbered : (y k : ℕ) → y < length labels → 1 ≤ k → k < slice_index labels y
      → (x : ℕ) × (x < y) × (slice_index labels x ≡ k)
  pub count_is : IsLabelCount labels count

-- the complexes of each reaction have equal labels
abbrev pub AreEven : Net → List ℕ → Type 0
AreEven net labels = (y z : ℕ) → ReactsTo net.reactions y z
    → slice_index labels y ≡ slice_index labels z

-- no complex before c has the label of c
abbrev pub IsFirst : List ℕ → ℕ → Type 0
IsFirst labels c = (b : ℕ) → b < c → slice_index labels b ≢ slice_index labels c

-- in a tree the root is the first complex of its class, with no reaction and depth 0; any other
-- complex is joined to its parent by the rule
abbrev pub IsTree : (ℕ → Type 0) → List ℕ → List ℕ → List ℕ → ℕ → Type 0
IsTree Hangs labels names depth c =
    (IsFirst labels c × (slice_index names c ≡ 0) × (slice_index depth c ≡ 0))
    ⊎ ((IsFirst labels c → ⊥) × Hangs c)

-- the reaction that c names joins it to a complex whose depth is less by one
pub record HangsByLink (net : Net) (up depth : List ℕ) (c : ℕ) : Type 0 where
  pub d : ℕ
  pub joins : IsReactionNumber net (slice_index up c) c d
      ⊎ IsReactionNumber net (slice_index up c) d c
  pub deeper : slice_index depth c ≡ suc (slice_index depth d)

-- the reaction that c names goes to it from a complex of its class whose depth is less by one
pub record HangsFrom (net : Net) (labels from depth : List ℕ) (c : ℕ) : Type 0 where
  pub d : ℕ
  pub goes : IsReactionNumber net (slice_index from c) d c
  pub class : slice_index labels d ≡ slice_index labels c
  pub deeper : slice_index depth c ≡ suc (slice_index depth d)

-- the reaction that c names goes from it to a complex of its class whose depth is less by one
pub record HangsTo (net : Net) (labels to depth : List ℕ) (c : ℕ) : Type 0 where
  pub d : ℕ
  pub goes : IsReactionNumber net (slice_index to c) c d
  pub class : slice_index labels d ≡ slice_index labels c
  pub deeper : slice_index depth c ≡ suc (slice_index depth d)

-- each complex of the network has the property
abbrev pub EachComplex : Net → (ℕ → Type 0) → Type 0
EachComplex net Has = (c : ℕ) → c < length net.complexes → Has c

-- the records `up` and `depth` of linkage classes
abbrev pub AreLinkTrees : Net → List ℕ → List ℕ → List ℕ → Type 0
AreLinkTrees net labels up depth =
    EachComplex net (IsTree (HangsByLink net up depth) labels up depth)

-- the records `from` and `fromdepth` of strong classes
abbrev pub AreFromTrees : Net → List ℕ → List ℕ → List ℕ → Type 0
AreFromTrees net labels from depth =
    EachComplex net (IsTree (HangsFrom net labels from depth) labels from depth)

-- the records `to` and `todepth` of strong classes
abbrev pub AreToTrees : Net → List ℕ → List ℕ → List ℕ → Type 0
AreToTrees net labels to depth =
    EachComplex net (IsTree (HangsTo net labels to depth) labels to depth)

-- ---- levels and exits

-- the number that a list gives to the class of a complex
abbrev pub of_class : List ℕ → List ℕ → ℕ → ℕ
of_class labels numbers c = slice_index numbers (slice_index labels c - 1)

-- each reaction between two classes goes to a class of a smaller level
abbrev pub DoLevelsFall : Net → List ℕ → List ℕ → Type 0
DoLevelsFall net labels level = (y z : ℕ) → ReactsTo net.reactions y z
    → (slice_index labels y ≡ slice_index labels z)
    ⊎ (of_class labels level z < of_class labels level y)

-- reaction r goes from class k to another
pub record GoesOut (net : Net) (labels : List ℕ) (k r : ℕ) : Type 0 where
  pub y : ℕ
  pub z : ℕ
  pub goes : IsReactionNumber net r y z
  pub from : slice_index labels y ≡ k
  pub other : slice_index labels z ≢ k

-- the exit of class k is 0 if no reaction leaves it, and else a reaction that leaves it
abbrev pub IsExit : Net → List ℕ → ℕ → ℕ → Type 0
IsExit net labels k e = ((e ≡ 0) × ((r : ℕ) → GoesOut net labels k r → ⊥)) ⊎ GoesOut net labels k e

-- each class has the right exit
abbrev pub AreAllExits : Net → List ℕ → List ℕ → Type 0
AreAllExits net labels exits = (k : ℕ) → k < length exits
    → IsExit net labels (suc k) (slice_index exits k)

-- how many exits are 0
abbrev pub zeros_in : List ℕ → ℕ
zeros_in exits = count_by (λ e. e == 0) exits

-- ---- reverses

-- reaction b is the reverse of reaction r
pub record IsReverse (net : Net) (r b : ℕ) : Type 0 where
  pub y : ℕ
  pub z : ℕ
  pub goes : IsReaction net.reactions r y z
  pub back : IsReactionNumber net b z y

-- the list names for each reaction its reverse
abbrev pub AreReverses : Net → List ℕ → Type 0
AreReverses net back = (r : ℕ) → r < length net.reactions → IsReverse net r (slice_index back r)

-- ---- sides and walks

-- marks of the side of the pair that reaction r joins: its reactant has 0, its product 1, other
-- linkage classes 0, and no other link joins complexes of different marks
pub record AreSideMarks (net : Net) (labels : List ℕ) (r : ℕ) (marks : List ℤ) : Type 0 where
  pub y : ℕ
  pub z : ℕ
  pub goes : IsReactionNumber net r y z
  pub from : entry marks y ≡ pos 0
  pub to : entry marks z ≡ pos 1
  pub outside : (c : ℕ) → c < length net.complexes → slice_index labels c ≢ slice_index labels y
      → entry marks c ≡ pos 0
  pub equal : (a b : ℕ) → ReactsTo net.reactions a b
      → IsBetween y z a b ⊎ (entry marks a ≡ entry marks b)

-- a walk from the reactant of r to its product by links, none of them between these two
pub record IsWayRound (net : Net) (r : ℕ) (walk : List ℕ) : Type 0 where
  pub y : ℕ
  pub z : ℕ
  pub goes : IsReactionNumber net r y z
  pub leads : WalkLeads (IsFreeStep net.reactions y z) y walk z
