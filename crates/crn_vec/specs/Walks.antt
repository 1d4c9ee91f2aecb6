-- Walks by steps of any kind, and right labels and numbers of classes of any kind.
-- Source: any book on graphs. The numbering of labels is this project's own.
-- Shapes: complexes count from 0, labels from 1. A walk from y is the list of the complexes after
-- y.
use Rattle.std.specs.Prelude.{◌≡◌, ◌≤◌, ◌<◌, ℕ, List, [], ◌∷◌, length, slice_index}
use Rattle.crn_vec.specs.Lists.{IsIn}

-- a walk from y, each step of the given kind, ends at z
abbrev pub IsAlong : (ℕ → ℕ → Type 0) → ℕ → List ℕ → ℕ → Type 0
IsAlong Step y [] z = y ≡ z
IsAlong Step y (x ∷ xs) z = Step y x × IsAlong Step x xs z

-- some walk by such steps leads from y to z
abbrev pub LeadsTo : (ℕ → ℕ → Type 0) → ℕ → ℕ → Type 0
LeadsTo Step y z = (steps : List ℕ) × IsAlong Step y steps z

-- labels are equal if and only if the complexes are in one class, and count from 1 by first
-- appearance
pub record AreLabelsOf (Same : ℕ → ℕ → Type 0) (labels : List ℕ) : Type 0 where
  pub same : (y z : ℕ) → y < length labels → z < length labels
      → slice_index labels y ≡ slice_index labels z → Same y z
  pub together : (y z : ℕ) → y < length labels → z < length labels → Same y z
      → slice_index labels y ≡ slice_index labels z
  pub positive : (y : ℕ) → y < length labels → 1 ≤ slice_index labels y
  -- each smaller label is that of an earlier complex
  pub numbered : (y k : ℕ) → y < length labels → 1 ≤ k → k < slice_index labels y
      → (x : ℕ) × (x < y) × (slice_index labels x ≡ k)

-- no two members are in one class
abbrev pub AreApart : (ℕ → ℕ → Type 0) → List ℕ → Type 0
AreApart Same [] = Unit {0}
AreApart Same (x ∷ xs) = ((y : ℕ) → IsIn y xs → Same x y → ⊥) × AreApart Same xs

-- the list has one complex of each class of complexes with the property
pub record AreRepresentatives (Has : ℕ → Type 0) (Same : ℕ → ℕ → Type 0)
    (ys : List ℕ) : Type 0 where
  pub members : (y : ℕ) → IsIn y ys → Has y
  pub apart : AreApart Same ys
  pub each : (z : ℕ) → Has z → (y : ℕ) × IsIn y ys × Same y z

-- the complexes with the property lie in this many classes
abbrev pub IsNumberOf : (ℕ → Type 0) → (ℕ → ℕ → Type 0) → ℕ → Type 0
IsNumberOf Has Same n = (ys : List ℕ) × AreRepresentatives Has Same ys × (length ys ≡ n)
