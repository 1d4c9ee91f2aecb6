-- Linkage classes of a network: complexes joined by walks along links, and the right labels of
-- complexes.
-- Source: Feinberg, Foundations of Chemical Reaction Network Theory (2019). The numbering of labels
-- is this project's own.
-- Shapes: reactions are pairs (reactant, product) of complexes, which count from 0; labels count
-- from 1.
use Rattle.std.specs.Prelude.{◌≡◌, ◌≤◌, ◌<◌, ◌⊎◌, ℕ, List, length, slice_index}
use Rattle.crn_vec.specs.Lists.{IsIn}
use Rattle.crn_vec.specs.Walks.{LeadsTo, AreLabelsOf}

-- a reaction goes from one to the other, in either direction
abbrev pub IsLinked : List (ℕ × ℕ) → ℕ → ℕ → Type 0
IsLinked reactions y z = IsIn (y, z) reactions ⊎ IsIn (z, y) reactions

-- some walk along links leads from y to z
abbrev pub SameClass : List (ℕ × ℕ) → ℕ → ℕ → Type 0
SameClass reactions y z = LeadsTo (IsLinked reactions) y z

-- labels are equal if and only if the complexes are in one class, and count from 1 by first
-- appearance
abbrev pub AreRightLabels : List (ℕ × ℕ) → List ℕ → Type 0
AreRightLabels reactions labels = AreLabelsOf (SameClass reactions) labels

-- the labels are 1 to count, each of them
pub record IsLabelCount (labels : List ℕ) (count : ℕ) : Type 0 where
  pub most : (y : ℕ) → y < length labels → slice_index labels y ≤ count
  pub each : (k : ℕ) → 1 ≤ k → k ≤ count
      → (y : ℕ) × (y < length labels) × (slice_index labels y ≡ k)
