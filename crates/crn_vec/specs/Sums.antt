-- Sums of a list over the complexes with a property.
-- Source: this project's own form of a sum over a subset.
-- Shapes: `g` has an entry for each complex; complexes count from 0.
use Rattle.std.specs.Prelude.{◌≡◌, ◌<◌, ◌⊎◌, ◌==◌, if◌then◌else◌, ℕ, ℤ, pos, List, length, map}
use Rattle.crn_vec.specs.Vectors.{entry, dot}

-- 1 at the complexes with the property, 0 at the others
abbrev pub AreMarks : (ℕ → Type 0) → List ℤ → Type 0
AreMarks Has marks = (y : ℕ) → y < length marks
    → (Has y × (entry marks y ≡ pos 1)) ⊎ ((Has y → ⊥) × (entry marks y ≡ pos 0))

-- the entries of g at the complexes with the property add up to x
pub record SumsTo (g : List ℤ) (Has : ℕ → Type 0) (x : ℤ) : Type 0 where
  pub marks : List ℤ
  pub long : length marks ≡ length g
  pub right : AreMarks Has marks
  pub is : dot marks g ≡ x

-- 1 at the complexes of this label, 0 at the others
abbrev pub label_marks : List ℕ → ℕ → List ℤ
label_marks labels k = map (λ l. if l == k then pos 1 else pos 0) labels
